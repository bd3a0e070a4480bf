use Rattle.std.proofs.Common.{◌≡◌, ◌+◌, ◌<◌, ◌≤◌, ℕ, get_or, min}
use Rattle.resp_stats.specs.Times.{last_count}
use Rattle.resp_stats.proofs.histogram.Histogram.append.Given as goal

abbrev pub invariant-loop-range : goal.invariant-loop-range
invariant-loop-range l = ((q : ℕ) → q < l.range →
    get_or l.self.counts q 0 ≡ min (get_or l.fn.self.counts q 0 + get_or l.other.counts q 0) last_count) ×
    ((q : ℕ) → l.range ≤ q → get_or l.self.counts q 0 ≡ get_or l.fn.self.counts q 0) ×
    (l.self.number ≡ l.fn.self.number)
