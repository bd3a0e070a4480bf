use Rattle.std.proofs.Common.{◌≡◌, ◌+◌, ◌≤◌, ◌++◌, replicate, None}
use Rattle.std.specs.VecDeque.{deque_capacity, deque_len}
use Rattle.resp_board.proofs.early.add_missing.Given as goal

abbrev pub invariant-loop-rest : goal.invariant-loop-rest
invariant-loop-rest l =
    (l.early.items ++ replicate l.rest None ≡ l.initial.early.items ++ replicate l.count None) ×
    (deque_len l.early + l.rest ≤ deque_capacity l.early)

abbrev pub decreases-loop-rest : goal.decreases-loop-rest
decreases-loop-rest l = l.rest
