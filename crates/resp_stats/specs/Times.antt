-- The times that a histogram has.
use Rattle.std.specs.Prelude.{◌≡◌, ℕ, ◌+◌, ◌<◌, ◌^◌, Bool, ◌&&◌, List, All, length, count_by, min, nat_le, nat_lt, slice_index}
use Rattle.resp_stats.specs.Ranges.{start_of}
use Rattle.resp_stats.specs.declared.histogram.Histogram.{Histogram}

-- the greatest number that a count can have
abbrev pub last_count : ℕ
last_count = 18446744073709551615

-- how many of the times are at most this one
abbrev pub count_at_most : ℕ → List ℕ → ℕ
count_at_most time times = count_by (λ t. nat_le t time) times

-- how many of the times are less than this one
abbrev pub count_below : ℕ → List ℕ → ℕ
count_below time times = count_by (λ t. nat_lt t time) times

-- whether a time is from the first of these times on, and before the second
abbrev pub is_between : ℕ → ℕ → ℕ → Bool
is_between from to time = nat_le from time && nat_lt time to

-- how many of the times are in a range
abbrev pub count_in : ℕ → List ℕ → ℕ
count_in range times = count_by (is_between (start_of range) (start_of (range + 1))) times

-- the time that is counted in place of a time, which is at most 2^32 - 1
abbrev pub counted : ℕ → ℕ
counted time = min time 4294967295

-- A histogram has these times. A count stays at its greatest number.
pub record HasTimes (h : Histogram) (times : List ℕ) : Type 0 where
  pub each : All (λ time. time < 2 ^ 32) times
  pub number : h.number ≡ min (length times) last_count
  pub counts : (range : ℕ) → range < 464 → slice_index h.counts range ≡ min (count_in range times) last_count
