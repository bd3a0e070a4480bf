use Rattle.std.proofs.Common.{length}
use Rattle.resp_board.proofs.Begun.{IsBeginning}
use Rattle.resp_board.proofs.begin.begin.Given as goal

abbrev pub invariant-loop-left : goal.invariant-loop-left
invariant-loop-left l = IsBeginning l.count l.initial.unbegun.items l.initial.left l.rest l.unbegun.items l.left

abbrev pub decreases-loop-left : goal.decreases-loop-left
decreases-loop-left l = length l.unbegun.items
