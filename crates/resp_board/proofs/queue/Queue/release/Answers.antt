use Rattle.std.proofs.Common.{◌≡◌, ◌≤◌, ◌++◌, ap, arith, cond, drop, is_ok, length, true, ◌∙◌}
use Rattle.resp_board.proofs.Begun.{counted_all}
use Rattle.resp_board.proofs.Lines.{held, released_as, take-rest}
use Rattle.resp_board.proofs.queue.Queue.release.Goals as goal

pub invariant_of-to-2 : goal.invariant_of-to-2
invariant_of-to-2 c =
    let q = c.args.self.now in
    let r = c.args.to.now in
    let room = c.in_ok-reserve-2.ensures.ok in
    let size = c.len-2.ensures in
    let ok : is_ok c.append-2.result ≡ true = c.append-2.ensures.succeeds (omega (arith, room, size)) in
    record {
      counted = counted_all q.waiting.items r.waiting.items c.append.new.self.items q.unbegun.items r.unbegun.items c.append-2.new.self.items q.left r.left
          q.out.items r.out.items c.extend_from_slice.new.self.items
          (c.in_ok-append.ensures.items ∙ ap (λ ts. ts ++ q.waiting.items) c.reserve.ensures.items)
          (c.append-2.ensures.items ∙ ap (λ b. cond b (c.reserve-2.new.self.items ++ q.unbegun.items) c.reserve-2.new.self.items) ok ∙
          ap (λ ns. ns ++ q.unbegun.items) c.reserve-2.ensures.items)
          (c.in_ok-extend_from_slice.ensures.ok ∙ ap (λ bytes. r.out.items ++ bytes) (take-rest q.left c.as_slice.result.now ∙ ap (drop q.left) c.as_slice.ensures)) q.counted r.counted;
    }

pub returns-clause-moved : goal.returns-clause-moved
returns-clause-moved c from h to k =
    let q = c.args.self.now in
    let r = c.args.to.now in
    let none : length q.waiting.items ≤ length q.unbegun.items = let b = c.requires in omega (arith, b) in
    let l = released_as q.waiting.items r.waiting.items c.append.new.self.items q.out.items r.out.items c.extend_from_slice.new.self.items q.unbegun.items
    r.unbegun.items c.append-2.new.self.items q.left r.left from to none
    (c.in_ok-append.ensures.items ∙ ap (λ ts. ts ++ q.waiting.items) c.reserve.ensures.items)
    (c.in_ok-extend_from_slice.ensures.ok ∙ ap (λ bytes. r.out.items ++ bytes) (take-rest q.left c.as_slice.result.now ∙ ap (drop q.left) c.as_slice.ensures))
    (c.in_ok-append-2.ensures.items ∙ ap (λ ns. ns ++ q.unbegun.items) c.reserve-2.ensures.items) (held q from h) (held r to k) in
    record { within = l.within; waiting = l.waits; in_order = l.in_order; begins = l.begins }
