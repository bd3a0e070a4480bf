-- The least completion of a front.
use Rattle.std.specs.Prelude.{◌≡◌, ℕ, ◌≤◌, List, ◌++◌, length}
use Rattle.resp_value.specs.Trees.{Tree, Spells}
use Rattle.resp_value.specs.Rules.{Rules, Rule, WithinItems, Keeps}

-- the least length of a text for which P holds
pub record HasLeast (P : List ℕ → Type 0) (least_length : ℕ) : Type 0 where
  pub some : List ℕ
  pub holds : P some
  pub size : length some ≡ least_length
  pub least : (text : List ℕ) → P text → least_length ≤ length text

-- the front and this rest are the text of a tree within the rules up to this one
pub record Continues (rules : Rules) (rule : Rule) (front rest : List ℕ) : Type 0 where
  pub tree : Tree
  pub spells : Spells tree (front ++ rest)
  pub keeps : Keeps rules rule tree

-- the least length of a rest that completes the front to the text of a tree within every rule except total
abbrev pub IsLeast : Rules → List ℕ → ℕ → Type 0
IsLeast rules front n = HasLeast (Continues rules WithinItems front) n
