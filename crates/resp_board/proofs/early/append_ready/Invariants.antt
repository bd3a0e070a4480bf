use Rattle.std.proofs.Common.{◌-◌, drop, length}
use Rattle.resp_board.specs.Answers.{answers_of}
use Rattle.resp_board.proofs.Ready.{AreAdded}
use Rattle.resp_board.proofs.early.append_ready.Given as goal

abbrev pub invariant-loop-text : goal.invariant-loop-text
invariant-loop-text l = AreAdded (drop 1 (answers_of l.early.items)) l.count l.initial.out l.out

abbrev pub decreases-loop-text : goal.decreases-loop-text
decreases-loop-text l = length l.early.items - l.count
