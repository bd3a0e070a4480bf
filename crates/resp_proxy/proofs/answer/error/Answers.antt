use Rattle.std.proofs.Common.{◌∙◌, ◌++◌, ap, codes}
use Rattle.resp_proxy.proofs.OwnReplies.{error-reply, is-text}
use Rattle.resp_proxy.proofs.answer.error.Goals as goal

pub returns : goal.returns
returns c =
    error-reply c.args.message.now _ (is-text c.args.message.now (λ i. (c.type_inv.message i).fits))
    (c.in_ok-extend_from_slice.ensures.items ∙ ap (λ items. items ++ codes "\r\n") c.in_ok-text.ensures)
