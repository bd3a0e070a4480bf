use Rattle.resp_board.proofs.Begun.{counted_sent}
use Rattle.resp_board.proofs.Lines.{bytes_sent, held}
use Rattle.resp_board.proofs.queue.Queue.sent.Goals as goal

pub invariant_of-self : goal.invariant_of-self
invariant_of-self c =
    let q = c.args.self.now in
    record {
      counted = counted_sent q.waiting.items q.unbegun.items c.begin.new.unbegun.items q.left c.begin.new.left c.args.count q.out.items c.advance.new.self.items
          c.requires c.advance.ensures.items c.begin.ensures q.counted;
    }

pub returns-clause-sent : goal.returns-clause-sent
returns-clause-sent c line h =
    let q = c.args.self.now in
    let l = bytes_sent q.waiting.items q.out.items c.advance.new.self.items q.unbegun.items c.begin.new.unbegun.items q.left c.begin.new.left c.args.count line
    c.requires c.advance.ensures.items c.begin.ensures (held q line h) in
    record { within = l.within; waiting = l.waits; in_order = l.in_order; begins = l.begins }
