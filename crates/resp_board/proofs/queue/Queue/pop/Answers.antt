use Rattle.std.proofs.Common.{◌<◌, length, arith}
use Rattle.std.proofs.lemmas.Grind.{common_steps}
use Rattle.resp_board.proofs.Lines.{popped_if}
use Rattle.resp_board.proofs.queue.Queue.pop.Goals as goal

pub returns-clause-answered : goal.returns-clause-answered
returns-clause-answered c =
    let q = c.args.self.now in
    let some : length q.unbegun.items < length q.waiting.items = grind (arith, common_steps) in
    popped_if c.pop_front.result q c.pop_front.new.self.items c.pop_front.ensures.items some _
    (λ line l. record { within = l.within; waiting = l.waits; in_order = l.in_order; begins = l.begins })
