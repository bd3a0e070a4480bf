-- The commands that are sent before all others.
use Rattle.std.specs.Prelude.{List, ℕ, [], ◌∷◌, Option, None, Some, codes}

-- the words of AUTH, with a user if one is given
abbrev pub auth_words : Option (List ℕ) → List ℕ → List (List ℕ)
auth_words None password = codes "AUTH" ∷ password ∷ []
auth_words (Some user) password = codes "AUTH" ∷ user ∷ password ∷ []
