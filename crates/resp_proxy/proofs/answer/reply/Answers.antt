use Rattle.std.proofs.Common.{subst, sym}
use Rattle.std.specs.Prelude.{IfOk}
use Rattle.resp_proxy.proofs.OwnReplies.{hello-made}
use Rattle.resp_proxy.specs.OwnReplies.{IsReplyBy, treatment_in}
use Rattle.resp_proxy.proofs.answer.reply.Goals as goal

pub returns-in-Hello : goal.returns-in-Hello
returns-in-Hello c =
    let route = c.args.route in
    subst (λ r. IfOk c.hello_text.result (λ text. IsReplyBy (treatment_in r) route.version route.client.number c.args.own_name.now.items text.items))
    (sym c.in-Hello.is) (hello-made c.hello_text.result route.client.number route.version c.hello_text.ensures)
