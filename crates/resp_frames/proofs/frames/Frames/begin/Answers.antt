use Rattle.std.proofs.Common.{◌∙◌, [], arith, length-take, refl, take}
use Rattle.std.proofs.lemmas.Grind.{common_steps}
use Rattle.resp_frames.specs.Framing.{frame_rules}
use Rattle.resp_frames.proofs.Ends.{frame_of, rejected, some_of, spelled}
use Rattle.resp_frames.proofs.frames.Frames.begin.Goals as goal

pub returns-in-Err-clause-refused : goal.returns-in-Err-clause-refused
returns-in-Err-clause-refused g c ready =
    rejected c.frame_error.result c.in-Err.error _ _ _ [] c.args.piece.now ready.same_rules c.frame_error.ensures.fault
    (c.in-Err.ensures.refusal [] [] ready.between)

pub returns-then-scanned-clause-whole : goal.returns-then-scanned-clause-whole
returns-then-scanned-clause-whole g c ready =
    let heard = c.in-Ok.ensures.value_whole [] [] ready.between c.if-scanned.true in
    let is = spelled _ _ _ _ (take c.in-Ok.scanned.used c.args.piece.now) ready.same_rules heard in (
      frame_of (frame_rules c.args.self.now) [] c.args.piece.now c.in-Ok.scanned.used _ refl (grind (arith, common_steps, length-take)) c.in-Ok.ensures.within_piece
          (some_of c.no_spelling_is_empty.ensures (frame_rules c.args.self.now) c.args.piece.now c.in-Ok.scanned.used is) is,
      refl,
    )

pub returns-then-scanned-clause-ready : goal.returns-then-scanned-clause-ready
returns-then-scanned-clause-ready g c ready =
    let heard = c.in-Ok.ensures.value_whole [] [] ready.between c.if-scanned.true in
    record { between = heard.reads; same_rules = c.in-Ok.ensures.same_rules ∙ ready.same_rules }
