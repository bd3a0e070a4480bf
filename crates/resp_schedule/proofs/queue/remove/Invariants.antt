-- the places that were passed, without the one, follow those that are left
use Rattle.std.proofs.Common.{◌≡◌, ◌++◌, drop, take, length}
use Rattle.std.specs.VecDeque.{deque_capacity}
use Rattle.resp_schedule.specs.Places.{without}
use Rattle.resp_schedule.proofs.queue.remove.Given as goal

abbrev pub invariant-loop-index : goal.invariant-loop-index
invariant-loop-index l = record {
  rest : l.queue.items ≡ drop l.index l.fn.queue.items ++ without l.place (take l.index l.fn.queue.items);
  left : l.left ≡ length (without l.place (take l.index (take l.fn.due l.fn.queue.items)));
  capacity : deque_capacity l.queue ≡ deque_capacity l.fn.queue;
}
