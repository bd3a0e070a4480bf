use Rattle.std.proofs.Common.{◌≡◌, List, [], ◌∷◌, drop, ap, Some, arith}
use Rattle.std.proofs.lemmas.Grind.{common_steps}
use Rattle.resp_scan.specs.declared.frame.Frame.{Frame}
use Rattle.resp_scan.specs.Machine.Room.{innermost}
use Rattle.resp_scan.specs.Machine.Fields.{place_of}
use Rattle.resp_scan.proofs.Soundness.Places.{top_is}
use Rattle.resp_scan.proofs.machine.Machine.begin.Goals as goal

innermost_is : (fs : List Frame) (f : Frame) → innermost fs ≡ Some f → fs ≡ f ∷ drop 1 fs
innermost_is [] f e = absurd (cc)
innermost_is (g ∷ fs) f e = let h : g ≡ f = cc in ap (λ x. x ∷ fs) h

pub returns-in-Some-clause-cause : goal.returns-in-Some-clause-cause
returns-in-Some-clause-cause c =
    c.begin_in.ensures.cause _ (innermost_is (place_of c.args.self.now).frames c.in-Some.frame.now (grind (arith, common_steps)))

pub returns-in-Some-clause-begun : goal.returns-in-Some-clause-begun
returns-in-Some-clause-begun c =
    c.begin_in.ensures.begun _ (innermost_is (place_of c.args.self.now).frames c.in-Some.frame.now (grind (arith, common_steps)))

pub begin_in-requires : goal.begin_in-requires
begin_in-requires c =
    let s = place_of c.args.self.now in
    let f = c.in-Some.frame.now in
    let h : innermost s.frames ≡ Some f = grind (arith, common_steps) in
    let t = top_is s f c.requires.sound h in
    record { needed = c.requires.needed; more = t.more; frames_need = t.frames_need; few = t.few; counted = t.counted }
