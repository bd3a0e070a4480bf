use Rattle.std.proofs.Common.{◌∙◌, refl, subst, sym}
use Rattle.resp_frames.specs.Framing.{IsHeld}
use Rattle.resp_frames.proofs.Ends.{frame_of}
use Rattle.resp_frames.proofs.frames.resume.Goals as goal

pub returns-then-scanned-clause-whole : goal.returns-then-scanned-clause-whole
returns-then-scanned-clause-whole c rules front h =
    let end = c.in-Ok.ensures.whole rules front (subst (λ held. IsHeld rules held front) (sym c.deref_mut.ensures.value) h) c.if-scanned.true in
    (frame_of rules front c.args.piece.now c.in-Ok.scanned.used _ (c.bytes_of.ensures ∙ end.bytes) refl end.within end.some end.spelled, refl)

pub returns-clause-more : goal.returns-clause-more
returns-clause-more c rules front h =
    c.in-Ok.ensures.more rules front (subst (λ held. IsHeld rules held front) (sym c.deref_mut.ensures.value) h) c.if-scanned.false
