use Rattle.std.proofs.Common.{◌≤◌, length, arith}
use Rattle.resp_board.proofs.Lines.{connected, held}
use Rattle.resp_board.proofs.queue.Queue.reconnect.Goals as goal

pub returns-clause-connected : goal.returns-clause-connected
returns-clause-connected c line h =
    let q = c.args.self.now in
    let none : length q.waiting.items ≤ length q.unbegun.items = omega (arith, c.requires) in
    let l = connected q.waiting.items q.out.items c.advance.new.self.items q.unbegun.items q.left line none c.advance.ensures.items (held q line h) in
    record { within = l.within; waiting = l.waits; in_order = l.in_order; begins = l.begins }
