-- Options among the words of a command.
use Rattle.std.specs.Prelude.{◌≡◌, ⊤, ℕ, Option, None, Some, List, [], ◌∷◌, ◌++◌, length, codes, IsTrue, if◌then◌else◌}
use Rattle.std.specs.Str.{str_eq_ignore_ascii_case}

-- the number of words that belong to an option of XREAD or XREADGROUP other than BLOCK
abbrev pub argument_count : List ℕ → Option ℕ
argument_count word =
    if str_eq_ignore_ascii_case word (codes "count") then Some 1 else
    if str_eq_ignore_ascii_case word (codes "group") then Some 2 else
    if str_eq_ignore_ascii_case word (codes "noack") then Some 0 else None

-- an option, with the words that belong to it
abbrev pub IsOption : List (List ℕ) → Type 0
IsOption [] = ⊥
IsOption (word ∷ arguments) = argument_count word ≡ Some (length arguments)

abbrev pub AreOptions : List (List (List ℕ)) → Type 0
AreOptions [] = ⊤
AreOptions (option ∷ options) = IsOption option × AreOptions options

-- the words of options, one option after another
abbrev pub joined : List (List (List ℕ)) → List (List ℕ)
joined [] = []
joined (option ∷ options) = option ++ joined options

-- the words are whole options, and then BLOCK and any words
pub record Blocks (words : List (List ℕ)) : Type 0 where
  pub options : List (List (List ℕ))
  pub valid : AreOptions options
  pub block : List ℕ
  pub named : IsTrue (str_eq_ignore_ascii_case block (codes "block"))
  pub rest : List (List ℕ)
  pub whole : words ≡ joined options ++ block ∷ rest
