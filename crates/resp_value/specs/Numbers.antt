-- Numbers as text: decimal digits, with a sign or without.
use Rattle.std.specs.Prelude.{◌≡◌, ℕ, ◌+◌, ◌-◌, ◌≤◌, Bool, true, false, ℤ, pos, List, [], ◌∷◌, ◌++◌, map, cond, eqb, codes}
use Rattle.std.proofs.Common.{neg_ℤ}
use Rattle.std.specs.List.{AllByRecursion}
use Rattle.std.specs.Str.{byte}
use Rattle.std.specs.Int.Digits.{number_from_digits, digits_of}
use Rattle.resp_value.specs.Bytes.{IsFull}

-- one of the bytes `0` to `9`
abbrev pub IsDigit : ℕ → Type 0
IsDigit b = (byte "0" ≤ b) × (b ≤ byte "9")

-- one or more decimal digits
abbrev pub IsDigits : List ℕ → Type 0
IsDigits text = IsFull text × AllByRecursion IsDigit text

-- the value of decimal digits
abbrev pub number : List ℕ → ℕ
number digits = number_from_digits 10 (map (λ digit. digit - byte "0") digits)

-- the text is one or more decimal digits of this value
abbrev pub IsNumber : ℕ → List ℕ → Type 0
IsNumber n text = IsDigits text × (number text ≡ n)

-- the digits of a number, without a leading zero
abbrev pub decimal : ℕ → List ℕ
decimal n = map (λ digit. digit + byte "0") (cond (eqb n 0) (0 ∷ []) (digits_of 10 n))

-- a sign as it is written, or no sign
pub data Sign : Type 0 where
  Unsigned : Sign
  Plus : Sign
  Minus : Sign

-- the text of a sign
abbrev pub sign_text : Sign → List ℕ
sign_text Unsigned = []
sign_text Plus = codes "+"
sign_text Minus = codes "-"

-- whether the sign is a minus
abbrev pub is_minus : Sign → Bool
is_minus Minus = true
is_minus _ = false

-- the value of digits after a sign
abbrev pub signed_value : Sign → List ℕ → ℤ
signed_value Minus digits = neg_ℤ (pos (number digits))
signed_value _ digits = pos (number digits)

-- an optional sign, and one or more digits
abbrev pub IsSignedDigits : List ℕ → Type 0
IsSignedDigits text = (sign : Sign) × (digits : List ℕ) × IsDigits digits × (text ≡ sign_text sign ++ digits)

-- the digits without leading zeros, empty if all digits are zeros
abbrev pub significant_digits : List ℕ → List ℕ
significant_digits [] = []
significant_digits (digit ∷ digits) = cond (eqb digit (byte "0")) (significant_digits digits) (digit ∷ digits)

-- a single zero if there is no digit
abbrev pub zero_if_none : List ℕ → List ℕ
zero_if_none [] = codes "0"
zero_if_none (digit ∷ digits) = digit ∷ digits

-- the digits that a big number keeps: without leading zeros, and `0` for zero
abbrev pub kept_digits : List ℕ → List ℕ
kept_digits digits = zero_if_none (significant_digits digits)

-- whether a big number is negative, which zero never is
abbrev pub is_below_zero : Sign → List ℕ → Bool
is_below_zero sign digits = cond (eqb (number digits) 0) false (is_minus sign)

-- a sign and digits as a big number keeps them
abbrev pub IsKept : Bool → List ℕ → Type 0
IsKept negative digits = IsDigits digits × (kept_digits digits ≡ digits) × (number digits ≡ 0 → negative ≡ false)

-- the sign and digits that a big number keeps of a text that is an optional sign and digits
abbrev pub KeepsDigits : List ℕ → Bool → List ℕ → Type 0
KeepsDigits text negative digits = (sign : Sign) × (written : List ℕ) × IsDigits written ×
    (text ≡ sign_text sign ++ written) × (negative ≡ is_below_zero sign written) × (digits ≡ kept_digits written)
