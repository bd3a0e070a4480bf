use Rattle.std.proofs.Common.{◌-◌}
use Rattle.resp_proxy.proofs.error_counts.word_of.Given as goal

abbrev pub decreases-loop-length : goal.decreases-loop-length
decreases-loop-length l = l.examined - l.length
