use Rattle.resp_flat.proofs.in_place.stop_for.Goals as goal

pub returns-in-NoReply : goal.returns-in-NoReply
returns-in-NoReply c room lacks = c.stop_without_reply.ensures room
