use Rattle.std.proofs.Common.{◌≡◌, ◌<◌, ℕ, false}
use Rattle.resp_proxy.specs.ErrorRows.{has_word}
use Rattle.resp_proxy.proofs.error_counts.ErrorCounts.find.Given as goal

abbrev pub invariant-loop-place : goal.invariant-loop-place
invariant-loop-place l = (q : ℕ) → 0 < q → q < l.place → has_word l.word l.self.rows.items q ≡ false
