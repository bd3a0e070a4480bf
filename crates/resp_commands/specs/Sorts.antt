-- The options of SORT.
use Rattle.std.specs.Prelude.{◌≡◌, ⊤, ℕ, ◌+◌, ◌-◌, ◌≤◌, List, [], ◌∷◌, ◌++◌, drop, length, codes, IsTrue, if◌then◌else◌}
use Rattle.std.specs.Str.{str_eq_ignore_ascii_case}
use Rattle.resp_commands.specs.Options.{joined}

-- the number of words that belong to an option of SORT
abbrev pub sort_argument_count : List ℕ → ℕ
sort_argument_count word =
    if str_eq_ignore_ascii_case word (codes "limit") then 2 else
    if str_eq_ignore_ascii_case word (codes "get") then 1 else
    if str_eq_ignore_ascii_case word (codes "by") then 1 else 0

-- an option, with the words that belong to it; another word is an option without words
abbrev pub IsSortOption : List (List ℕ) → Type 0
IsSortOption [] = ⊥
IsSortOption (word ∷ arguments) = sort_argument_count word ≡ length arguments

abbrev pub AreSortOptions : List (List (List ℕ)) → Type 0
AreSortOptions [] = ⊤
AreSortOptions (option ∷ options) = IsSortOption option × AreSortOptions options

-- this many of the words are whole options, and then come STORE and another word
pub record StoresAfter (words : List (List ℕ)) (count : ℕ) : Type 0 where
  pub options : List (List (List ℕ))
  pub valid : AreSortOptions options
  pub store : List ℕ
  pub named : IsTrue (str_eq_ignore_ascii_case store (codes "store"))
  pub destination : List ℕ
  pub rest : List (List ℕ)
  pub whole : words ≡ joined options ++ store ∷ destination ∷ rest
  pub before : count ≡ length (joined options)

-- this is so of no later word
pub record StoresLast (words : List (List ℕ)) (count : ℕ) : Type 0 where
  pub stores : StoresAfter words count
  pub last : (other : ℕ) → StoresAfter words other → other ≤ count

-- the key after the last STORE of SORT, among the words from a place on
pub record IsSortedKey (start : ℕ) (arguments : List (List ℕ)) (place : ℕ) : Type 0 where
  pub count : ℕ
  pub found : StoresLast (drop (start - 1) arguments) count
  pub next : place ≡ start - 1 + count + 2
