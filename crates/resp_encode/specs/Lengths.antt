-- The lengths of words.
use Rattle.std.specs.Prelude.{◌≡◌, ℕ, List, length, map}
use Rattle.std.specs.List.{AllByRecursion}
use Rattle.resp_value.specs.Bytes.{IsText}

-- the words consist of bytes, and have these lengths in order
pub record HaveLengths (words : List (List ℕ)) (lengths : List ℕ) : Type 0 where
  pub are_bytes : AllByRecursion IsText words
  pub counted : map (λ word. length word) words ≡ lengths
