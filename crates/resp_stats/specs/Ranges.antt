-- Where the ranges of a histogram begin.
use Rattle.std.specs.Prelude.{ℕ, ◌+◌, ◌*◌, ◌^◌, ◌-◌, ◌/◌, ◌%◌, nat_lt, if◌then◌else◌}

-- The least time of a range, in microseconds. From 16 on each power of two has 16 ranges.
abbrev pub start_of : ℕ → ℕ
start_of range = if nat_lt range 16 then range else (range % 16 + 16) * 2 ^ (range / 16 - 1)
