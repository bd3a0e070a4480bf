-- Parts that wait, each on one line.
use Rattle.std.specs.Prelude.{◌≡◌, ◌≢◌, ℕ, zero, suc, List, [], ◌∷◌, Option, None, Some, slice_get}
use Rattle.std.specs.List.{AllByRecursion}
use Rattle.resp_board.specs.Boards.{Entry, Place}

-- the answer to a part of a command, if there is such a part
abbrev pub answer_of : List Entry → ℕ → ℕ → Option (Option (List ℕ))
answer_of [] entry part = None
answer_of (e ∷ es) zero part = slice_get e.parts part
answer_of (e ∷ es) (suc entry) part = answer_of es entry part

-- they are not the same part of the same command
abbrev pub AreApart : Place → Place → Type 0
AreApart p q = p.entry ≡ q.entry → p.part ≡ q.part → ⊥

-- each is another part
abbrev pub AreDistinct : List Place → Type 0
AreDistinct [] = Unit {0}
AreDistinct (p ∷ ps) = AllByRecursion (AreApart p) ps × AreDistinct ps

-- the part has no answer
abbrev pub IsMissing : List Entry → Place → Type 0
IsMissing es p = answer_of es p.entry p.part ≡ Some None

-- a part that waits has no answer, and it waits once and on one line
pub record WaitsOnce (es : List Entry) (waiting : ℕ → List Place) : Type 0 where
  pub missing : (line : ℕ) → AllByRecursion (IsMissing es) (waiting line)
  pub once : (line : ℕ) → AreDistinct (waiting line)
  pub on_one : (line other : ℕ) → line ≢ other → AllByRecursion (λ (p : Place). AllByRecursion (AreApart p) (waiting other)) (waiting line)
