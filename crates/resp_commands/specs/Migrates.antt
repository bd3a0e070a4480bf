-- The options of MIGRATE, and its keys.
use Rattle.std.specs.Prelude.{◌≡◌, ◌⊎◌, ⊤, ℕ, ◌+◌, ◌-◌, ◌<◌, ◌≤◌, false, List, [], ◌∷◌, ◌++◌, drop, length, codes, IsTrue, if◌then◌else◌}
use Rattle.std.specs.Str.{str_eq_ignore_ascii_case}
use Rattle.resp_commands.specs.Options.{joined}

-- the number of words that belong to an option of MIGRATE other than KEYS
abbrev pub migrate_argument_count : List ℕ → ℕ
migrate_argument_count word =
    if str_eq_ignore_ascii_case word (codes "auth") then 1 else
    if str_eq_ignore_ascii_case word (codes "auth2") then 2 else 0

-- an option other than KEYS, with the words that belong to it; another word is an option without words
abbrev pub IsMigrateOption : List (List ℕ) → Type 0
IsMigrateOption [] = ⊥
IsMigrateOption (word ∷ arguments) =
    (str_eq_ignore_ascii_case word (codes "keys") ≡ false) × (migrate_argument_count word ≡ length arguments)

abbrev pub AreMigrateOptions : List (List (List ℕ)) → Type 0
AreMigrateOptions [] = ⊤
AreMigrateOptions (option ∷ options) = IsMigrateOption option × AreMigrateOptions options

-- this many of the words are whole options, and then comes KEYS
pub record HasKeysAfter (words : List (List ℕ)) (count : ℕ) : Type 0 where
  pub options : List (List (List ℕ))
  pub valid : AreMigrateOptions options
  pub keyword : List ℕ
  pub named : IsTrue (str_eq_ignore_ascii_case keyword (codes "keys"))
  pub rest : List (List ℕ)
  pub whole : words ≡ joined options ++ keyword ∷ rest
  pub before : count ≡ length (joined options)

-- the third word after the name is empty
pub record HasEmptyThird (arguments : List (List ℕ)) : Type 0 where
  pub others : List (List ℕ)
  pub empty : drop 2 arguments ≡ [] ∷ others

-- the only key is the third word after the name, if KEYS is not among the options
pub record IsOnlyKey (start : ℕ) (arguments : List (List ℕ)) (place : ℕ) : Type 0 where
  pub third : place ≡ 3
  pub within : place ≤ length arguments
  pub unlisted : (count : ℕ) → HasKeysAfter (drop (start - 1) arguments) count → ⊥

-- each word after KEYS is a key, if the third word is empty
pub record IsListedKey (start : ℕ) (arguments : List (List ℕ)) (place : ℕ) : Type 0 where
  pub count : ℕ
  pub found : HasKeysAfter (drop (start - 1) arguments) count
  pub empty : HasEmptyThird arguments
  pub after : start - 1 + count + 1 < place
  pub within : place ≤ length arguments

-- a key of MIGRATE, whose options are the words from a place on
abbrev pub IsMigrateKey : ℕ → List (List ℕ) → ℕ → Type 0
IsMigrateKey start arguments place = IsOnlyKey start arguments place ⊎ IsListedKey start arguments place
