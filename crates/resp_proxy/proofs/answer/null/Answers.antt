use Rattle.std.proofs.Common.{◌∙◌}
use Rattle.resp_proxy.proofs.OwnReplies.{null-reply}
use Rattle.resp_proxy.proofs.answer.null.Goals as goal

pub returns : goal.returns
returns c = null-reply c.args.version _ (c.in_ok-text.ensures ∙ c.null_text.ensures)
