use Rattle.std.proofs.Common.{◌≡◌, Some, Err, [], ap, arith, subst}
use Rattle.std.specs.Prelude.{IfSome}
use Rattle.resp_frames.specs.Framing.{HasBegun, IsFrame, frame_rules}
use Rattle.resp_proxy.proofs.Rejectings.{frame_rejected, value_rejected}
use Rattle.resp_proxy.proofs.replies.take_reply.Goals as goal

pub returns-in-Err-clause-refused : goal.returns-in-Err-clause-refused
returns-in-Err-clause-refused c ready front h =
    frame_rejected (frame_rules c.args.frames.now) c.args.line.place c.args.board.now front c.args.piece.now c.in-Err.error
    (c.in-Err.ensures.refused ready front h) (λ is. c.in-Err.ensures.any_value (ap Err is))

pub returns-in-Err-give_reply-clause-refused : goal.returns-in-Err-give_reply-clause-refused
returns-in-Err-give_reply-clause-refused c ready front h =
    let rules = frame_rules c.args.frames.now in
    let is : c.in-Ok.found ≡ Some c.in-Some.frame = grind arith in
    let whole = subst (λ o. IfSome o (λ frame. IsFrame rules front c.args.piece.now frame × HasBegun rules c.next.new.begun [])) is
    (c.in-Ok.ensures.whole ready front h) in
    value_rejected rules c.args.line.place c.give_reply.new.board front c.args.piece.now c.in-Some.frame c.in-Err-give_reply.error whole.0
    c.in-Err-give_reply.ensures.refused
