use Rattle.std.proofs.Common.{◌++◌, ◌∷◌, [], length, ap, ◌∙◌}
use Rattle.resp_board.proofs.Begun.{counted_command}
use Rattle.resp_board.proofs.Lines.{held, pushed_as}
use Rattle.resp_board.proofs.queue.Queue.push.Goals as goal

pub invariant_of-self-2 : goal.invariant_of-self-2
invariant_of-self-2 c =
    let q = c.args.self.now in
    let text = c.args.text.now in
    record {
      counted = counted_command q.waiting.items c.push_back_reserved.new.self.items q.unbegun.items c.push_back_reserved-2.new.self.items q.left
          q.out.items c.extend_from_slice.new.self.items text c.args.ticket
          (c.push_back_reserved.ensures.items ∙ ap (λ ts. ts ++ c.args.ticket ∷ []) c.reserve.ensures.items)
          (c.push_back_reserved-2.ensures.items ∙ ap (λ ns. ns ++ length text ∷ []) c.reserve-2.ensures.items) c.in_ok-extend_from_slice.ensures.ok q.counted;
    }

pub returns-clause-queued : goal.returns-clause-queued
returns-clause-queued c line h =
    let q = c.args.self.now in
    let text = c.args.text.now in
    let l = pushed_as q.waiting.items c.push_back_reserved.new.self.items q.out.items c.extend_from_slice.new.self.items q.unbegun.items
    c.push_back_reserved-2.new.self.items q.left line c.args.ticket text
    (c.push_back_reserved.ensures.items ∙ ap (λ ts. ts ++ c.args.ticket ∷ []) c.reserve.ensures.items) c.in_ok-extend_from_slice.ensures.ok
    (c.push_back_reserved-2.ensures.items ∙ ap (λ ns. ns ++ length text ∷ []) c.reserve-2.ensures.items) (held q line h) in
    record { within = l.within; waiting = l.waits; in_order = l.in_order; begins = l.begins }
