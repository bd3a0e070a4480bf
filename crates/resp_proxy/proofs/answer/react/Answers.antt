use Rattle.resp_proxy.proofs.OwnReplies.{closing-reacts}
use Rattle.resp_proxy.proofs.answer.react.Goals as goal

pub returns-in-Some : goal.returns-in-Some
returns-in-Some c known = closing-reacts c.args.route c.args.own_name.now.items _ c.args.name.now c.args.first c.in-Some.answer (c.in-Some.ensures.some known)
