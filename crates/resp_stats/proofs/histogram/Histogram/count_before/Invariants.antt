use Rattle.std.proofs.Common.{◌≡◌, ◌<◌, ◌^◌, ℕ, List, length}
use Rattle.resp_stats.specs.Ranges.{start_of}
use Rattle.resp_stats.specs.Times.{HasTimes, count_below}
use Rattle.resp_stats.proofs.histogram.Histogram.count_before.Given as goal

abbrev pub invariant-loop-range : goal.invariant-loop-range
invariant-loop-range l = (times : List ℕ) → HasTimes l.self times → length times < 2 ^ 64 →
    l.count ≡ count_below (start_of l.range) times
