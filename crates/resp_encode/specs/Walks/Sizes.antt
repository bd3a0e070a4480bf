-- Numbers that a `u64` can hold.
use Rattle.std.specs.Prelude.{◌≡◌, ℕ, ◌-◌, ◌≤◌, ◌^◌, min, Option, Some, None}

-- a size that a `u64` can hold, or no size otherwise
abbrev pub IsSize : Option ℕ → ℕ → Type 0
IsSize (Some n) size = size ≡ n
IsSize None size = 2 ^ 64 ≤ size

-- a number, or the greatest `u64` if that is less
abbrev pub IsSaturated : ℕ → ℕ → Type 0
IsSaturated found n = found ≡ min n (2 ^ 64 - 1)
