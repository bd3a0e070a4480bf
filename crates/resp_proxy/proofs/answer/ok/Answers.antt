use Rattle.resp_proxy.proofs.OwnReplies.{ok-reply}
use Rattle.resp_proxy.proofs.answer.ok.Goals as goal

pub returns : goal.returns
returns c = ok-reply _ c.in_ok-text.ensures
