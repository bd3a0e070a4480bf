-- The texts of doubles: the published grammar, and `-nan`, which redis-server writes.
use Rattle.std.specs.Prelude.{◌≡◌, ◌⊎◌, ℕ, List, [], ◌∷◌, ◌++◌, codes}
use Rattle.std.specs.Str.{byte}
use Rattle.resp_value.specs.Numbers.{IsDigits, Sign, sign_text}

-- nothing, or a point and one or more digits
abbrev pub IsFraction : List ℕ → Type 0
IsFraction text = (text ≡ []) ⊎ ((digits : List ℕ) × IsDigits digits × (text ≡ byte "." ∷ digits))

-- nothing, or `e` or `E`, an optional sign, and one or more digits
abbrev pub IsExponent : List ℕ → Type 0
IsExponent text = (text ≡ []) ⊎ ((mark : ℕ) × (sign : Sign) × (digits : List ℕ) × IsDigits digits ×
    ((mark ≡ byte "e") ⊎ (mark ≡ byte "E")) × (text ≡ mark ∷ (sign_text sign ++ digits)))

-- an optional sign, one or more digits, and perhaps a fraction and an exponent
pub record IsDecimal (text : List ℕ) : Type 0 where
  pub sign : Sign
  pub whole : List ℕ
  pub fraction : List ℕ
  pub exponent : List ℕ
  pub are_digits : IsDigits whole
  pub is_fraction : IsFraction fraction
  pub is_exponent : IsExponent exponent
  pub are : text ≡ sign_text sign ++ (whole ++ (fraction ++ exponent))

-- a name of an infinity, or of no number
abbrev pub IsNamed : List ℕ → Type 0
IsNamed text = (text ≡ codes "inf") ⊎ (text ≡ codes "-inf") ⊎ (text ≡ codes "nan") ⊎ (text ≡ codes "-nan")

-- the text of a double
abbrev pub IsDouble : List ℕ → Type 0
IsDouble text = IsDecimal text ⊎ IsNamed text
