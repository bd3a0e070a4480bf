use Rattle.std.proofs.Common.{◌≡◌, drop}
use Rattle.resp_board.proofs.early.drop_front.Given as goal

abbrev pub invariant-loop-rest : goal.invariant-loop-rest
invariant-loop-rest l = drop l.rest l.early.items ≡ drop l.initial.count l.initial.early.items

abbrev pub decreases-loop-rest : goal.decreases-loop-rest
decreases-loop-rest l = l.rest
