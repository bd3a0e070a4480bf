-- The digits at the beginning of a text.
use Rattle.std.specs.Prelude.{◌≡◌, ℕ, ◌<◌, List, ◌∷◌, ◌++◌}
use Rattle.std.specs.List.{AllByRecursion}
use Rattle.resp_value.specs.Numbers.{IsDigit, number}

-- the text begins with digits of this number, or with no digit if it is 0, and then has this rest
pub record BeginsWithDigits (text : List ℕ) (n : ℕ) (rest : List ℕ) : Type 0 where
  pub digits : List ℕ
  pub are : AllByRecursion IsDigit digits
  pub counted : number digits ≡ n
  pub whole : text ≡ digits ++ rest

-- the text does not begin with a digit
abbrev pub HasNoDigit : List ℕ → Type 0
HasNoDigit text = (digit : ℕ) (rest : List ℕ) → text ≡ digit ∷ rest → IsDigit digit → ⊥

-- the text begins with digits of a number greater than this one
pub record HasTooMany (text : List ℕ) (most : ℕ) : Type 0 where
  pub n : ℕ
  pub rest : List ℕ
  pub begins : BeginsWithDigits text n rest
  pub more : most < n
