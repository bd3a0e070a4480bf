-- The magnitudes of signed 64-bit integers.
use Rattle.std.specs.Prelude.{ℕ, ◌-◌, ◌^◌, Bool, true, false}

-- the greatest magnitude of an integer of 64 bits, with or without a minus
abbrev pub greatest_magnitude : Bool → ℕ
greatest_magnitude true = 2 ^ 63
greatest_magnitude false = 2 ^ 63 - 1
