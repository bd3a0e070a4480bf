-- The table of the two digits of each number below a hundred.
use Rattle.std.proofs.Common.{◌≡◌, ℕ, zero, suc, ◌+◌, ◌-◌, ◌*◌, ◌/◌, ◌%◌, ◌<◌, Bool, true, ◌&&◌, T, eqb, get_or, inl, inr, arith, eq-zero-or-pos, eqb→eq}
use lib.Ieee.Fits.{and_l, and_r}
use Rattle.resp_encode.specs.declared.digits.TheConstants.{PAIRS}

-- the digits of one number stand at their places
abbrev stand_at : ℕ → Bool
stand_at n = eqb (get_or PAIRS (n * 2) 0) (48 + n / 10) && eqb (get_or PAIRS (n * 2 + 1) 0) (48 + n % 10)

-- the digits of each number below this one stand at their places
abbrev stand_below : ℕ → Bool
stand_below zero = true
stand_below (suc n) = stand_at n && stand_below n

from_below : (most n : ℕ) → T (stand_below most) → n < most → T (stand_at n)
from_below zero n all less = absurd (omega arith)
from_below (suc most) n all less =
    elim (eq-zero-or-pos (most - n)) [
      | inl last ↦ let same : n ≡ most = omega arith in rw same (and_l (stand_at most) (stand_below most) all)
      | inr before ↦ from_below most n (and_r (stand_at most) (stand_below most) all) (omega arith)
    ]

pub pair_tens : (n : ℕ) → n < 100 → get_or PAIRS (n * 2) 0 ≡ 48 + n / 10
pair_tens n small = eqb→eq _ _ (and_l _ _ (from_below 100 n tt small))

pub pair_ones : (n : ℕ) → n < 100 → get_or PAIRS (n * 2 + 1) 0 ≡ 48 + n % 10
pair_ones n small = eqb→eq _ _ (and_r _ _ (from_below 100 n tt small))
