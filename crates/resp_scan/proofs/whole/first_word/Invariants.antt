use Rattle.std.proofs.Common.{◌-◌, length}
use Rattle.resp_scan.proofs.Wholes.FirstWords.{ReadsHead}
use Rattle.resp_scan.proofs.whole.first_word.Given as goal

abbrev pub invariant-loop-end : goal.invariant-loop-end
invariant-loop-end l = ReadsHead l.text l.end l.length

abbrev pub decreases-loop-end : goal.decreases-loop-end
decreases-loop-end l = length l.text - l.end
