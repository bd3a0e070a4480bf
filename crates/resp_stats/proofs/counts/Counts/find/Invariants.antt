use Rattle.std.proofs.Common.{◌≡◌, ◌<◌, ℕ, false}
use Rattle.resp_stats.specs.Rows.{has_name}
use Rattle.resp_stats.proofs.counts.Counts.find.Given as goal

abbrev pub invariant-loop-place : goal.invariant-loop-place
invariant-loop-place l = (q : ℕ) → 0 < q → q < l.place → has_name l.name.text.items l.self.rows.items q ≡ false
