use Rattle.std.specs.Prelude.{MatchOption, None}
use Rattle.std.proofs.Common.{rules, ◌≡◌, List, ℕ, [], refl, subst, sym}
use Rattle.resp_frames.specs.Framing.{IsFrame, IsHeld, frame_rules}
use Rattle.resp_frames.proofs.frames.Frames.next.Goals as goal

pub returns-in-Some-clause-whole : goal.returns-in-Some-clause-whole
returns-in-Some-clause-whole c ready front has =
    let frames = frame_rules c.args.self.now in
    let none : c.args.begun.now.held ≡ None = search rules in
    let empty : front ≡ [] = subst (λ held. MatchOption held (front ≡ []) (λ h. IsHeld frames h.value front)) none has in (
      subst (λ f. IsFrame frames f c.args.piece.now c.in-Some.frame) (sym empty) c.in-Some.ensures,
      subst (λ held. MatchOption held (◌≡◌ {A = List ℕ} [] []) (λ h. IsHeld frames h.value [])) (sym none) refl,
    )

pub returns-in-Some-clause-within : goal.returns-in-Some-clause-within
returns-in-Some-clause-within c = c.in-Some.ensures.within
