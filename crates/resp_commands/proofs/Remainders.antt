-- The table of the remainders of a byte followed by 16 zero bits.
use Rattle.std.proofs.Common.{◌≡◌, ℕ, zero, suc, ◌+◌, ◌-◌, ◌*◌, ◌/◌, ◌%◌, ◌<◌, Bool, true, ◌&&◌, T, eqb, get_or, bit_xor, inl, inr, arith, eq-zero-or-pos, eqb→eq, sym, ap, ◌∙◌, add-zero}
use Rattle.std.proofs.lemmas.Nat.{xor_block, xor_of_8, shr_split}
use lib.Bits.{xor_zero_r}
use lib.Ieee.Fits.{and_l, and_r}
use Rattle.resp_commands.specs.Checksums.{shifted_by, with_byte}
use Rattle.resp_commands.specs.declared.checksum.TheConstants.{REMAINDERS}

-- eight shifts of a remainder with these upper and lower bytes
abbrev is_one : ℕ → ℕ → Bool
is_one upper lower = eqb (shifted_by 8 (upper * 256 + lower)) (bit_xor (lower * 256) (get_or REMAINDERS upper 0))

abbrev are_lower : ℕ → ℕ → Bool
are_lower upper zero = true
are_lower upper (suc lower) = is_one upper lower && are_lower upper lower

abbrev are_all : ℕ → Bool
are_all zero = true
are_all (suc upper) = are_lower upper 256 && are_all upper

from_lower : (upper most lower : ℕ) → T (are_lower upper most) → lower < most → T (is_one upper lower)
from_lower upper zero lower all less = absurd (omega arith)
from_lower upper (suc most) lower all less =
    elim (eq-zero-or-pos (most - lower)) [
      | inl last ↦ let same : lower ≡ most = omega arith in rw same (and_l (is_one upper most) (are_lower upper most) all)
      | inr before ↦ from_lower upper most lower (and_r (is_one upper most) (are_lower upper most) all) (omega arith)
    ]

from_all : (most upper : ℕ) → T (are_all most) → upper < most → T (are_lower upper 256)
from_all zero upper all less = absurd (omega arith)
from_all (suc most) upper all less =
    elim (eq-zero-or-pos (most - upper)) [
      | inl last ↦ let same : upper ≡ most = omega arith in rw same (and_l (are_lower most 256) (are_all most) all)
      | inr before ↦ from_all most upper (and_r (are_lower most 256) (are_all most) all) (omega arith)
    ]

eight_shifts : (upper lower : ℕ) → upper < 256 → lower < 256 →
    shifted_by 8 (upper * 256 + lower) ≡ bit_xor (lower * 256) (get_or REMAINDERS upper 0)
eight_shifts upper lower high low = eqb→eq _ _ (from_lower upper 256 lower (from_all 256 upper tt high) low)

pub within : (register byte : ℕ) → register < 65536 → byte < 256 → bit_xor (register / 256) byte < 256
within register byte fits small = xor_of_8 (register / 256) byte (omega arith) small

pub one_step : (register byte : ℕ) → register < 65536 → byte < 256 →
    with_byte register byte ≡ bit_xor (register % 256 * 256) (get_or REMAINDERS (bit_xor (register / 256) byte) 0)
one_step register byte fits small =
    let lower : register % 256 < 256 = omega arith in
    let joined : bit_xor register (byte * 256) ≡ bit_xor (register / 256) byte * 256 + register % 256 =
    ap (λ r. bit_xor r (byte * 256)) (sym (shr_split register 8)) ∙
    ap (λ b. bit_xor (register / 256 * 256 + register % 256) b) (sym (add-zero (byte * 256))) ∙
    xor_block 8 (register / 256) byte (register % 256) 0 lower (omega arith) ∙
    ap (λ x. bit_xor (register / 256) byte * 256 + x) (xor_zero_r (register % 256)) in
    ap (shifted_by 8) joined ∙ eight_shifts (bit_xor (register / 256) byte) (register % 256) (within register byte fits small) lower
