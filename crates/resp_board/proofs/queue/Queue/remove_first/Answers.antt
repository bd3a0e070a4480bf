use Rattle.std.proofs.Common.{◌∙◌, ◌≤◌, drop, length, ap, arith}
use Rattle.resp_board.proofs.Lines.{held, removed}
use Rattle.resp_board.proofs.queue.Queue.remove_first.Goals as goal

pub returns-clause-removed : goal.returns-clause-removed
returns-clause-removed c line h =
    let q = c.args.self.now in
    let none : length q.waiting.items ≤ length q.unbegun.items = omega (arith, c.requires) in
    let l = removed q.waiting.items c.pop_front-2.new.self.items q.out.items c.advance-2.new.self.items q.unbegun.items c.pop_front.new.self.items q.left
    c.in-Some.length line c.in-Some-pop_front.ticket c.in-Some-pop_front.ensures.items c.in-Some.ensures.items none
    (c.advance-2.ensures.items ∙ ap (drop c.in-Some.length) c.advance.ensures.items) (held q line h) in
    record { within = l.within; waiting = l.waits; in_order = l.in_order; begins = l.begins }
