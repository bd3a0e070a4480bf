use Rattle.std.proofs.Common.{◌≡◌, ◌≤◌, ℕ, ◌+◌}
use Rattle.resp_tap.specs.Dates.{date_of, first_of, later}
use Rattle.resp_tap.proofs.date.date_of.Given as goal

-- the date is the first day of a month, and these days are left from it on
pub record IsLeft (days left year month day : ℕ) : Type 0 where
  pub first : day ≡ 1
  pub same : later left (first_of year month) ≡ date_of days
  pub bound : year + left ≤ days + 1970 + days

abbrev pub invariant-loop-left : goal.invariant-loop-left
invariant-loop-left l = IsLeft l.fn.days l.left l.date.year l.date.month l.date.day

abbrev pub decreases-loop-left : goal.decreases-loop-left
decreases-loop-left l = l.left
