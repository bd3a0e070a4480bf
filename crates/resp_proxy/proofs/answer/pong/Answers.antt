use Rattle.resp_proxy.proofs.OwnReplies.{pong-reply}
use Rattle.resp_proxy.proofs.answer.pong.Goals as goal

pub returns : goal.returns
returns c = pong-reply _ c.in_ok-text.ensures
