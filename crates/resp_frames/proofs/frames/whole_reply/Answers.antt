use Rattle.std.proofs.Common.{[], arith, length-take, refl}
use Rattle.std.proofs.lemmas.Grind.{common_steps}
use Rattle.resp_value.specs.Rules.{rules_under}
use Rattle.resp_frames.proofs.Ends.{frame_of}
use Rattle.resp_frames.proofs.frames.whole_reply.Goals as goal

pub returns : goal.returns
returns c =
    let piece = c.args.piece.now in
    let end = c.in_ok-end.end in
    let is = c.in_ok-end.ensures.reply.1 in
    let within = c.in_ok-end.ensures.within in
    frame_of (rules_under c.args.version c.args.limits.now) [] piece end _ refl (grind (arith, common_steps, length-take)) within.1 within.0
    (record { tree = is.tree; spells = is.spells; keeps = is.keeps })
