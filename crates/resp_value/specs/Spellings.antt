-- Spellings of a value, viable texts, the cause of an error, and the one way to cut a text into values.
use Rattle.std.specs.Prelude.{◌≡◌, ℕ, ◌+◌, ◌<◌, List, [], ◌∷◌, ◌++◌, length}
use Rattle.resp_value.specs.Data.{Datum}
use Rattle.resp_value.specs.Trees.{Tree, Spells}
use Rattle.resp_value.specs.TreeValues.{value}
use Rattle.resp_value.specs.Rules.{Rules, Rule, WithinTotal, rank, Keeps}

-- the text is a spelling (an encoding) of the value under the rules
pub record IsSpelling (rules : Rules) (x : Datum) (text : List ℕ) : Type 0 where
  pub tree : Tree
  pub spells : Spells tree text
  pub keeps : Keeps rules WithinTotal tree
  pub valued : value tree ≡ x

-- the front is a prefix of the text of some tree within the rules up to this one
pub record IsViable (rules : Rules) (rule : Rule) (front : List ℕ) : Type 0 where
  pub rest : List ℕ
  pub tree : Tree
  pub spells : Spells tree (front ++ rest)
  pub keeps : Keeps rules rule tree

-- the first rule under which the front is not viable
pub record IsCause (rules : Rules) (front : List ℕ) (rule : Rule) : Type 0 where
  pub viable_before : (earlier : Rule) → rank earlier < rank rule → IsViable rules earlier front
  pub not_viable : IsViable rules rule front → ⊥

-- the text consists of spellings of the values, in order
abbrev pub AreSpellings : Rules → List Datum → List ℕ → Type 0
AreSpellings rules [] text = text ≡ []
AreSpellings rules (x ∷ xs) text = (front : List ℕ) × (rest : List ℕ) × IsSpelling rules x front ×
    AreSpellings rules xs rest × (text ≡ front ++ rest)

-- the text consists of spellings of the values and a rest that does not begin with a spelling
pub record Cut (rules : Rules) (text : List ℕ) (xs : List Datum) (rest : List ℕ) : Type 0 where
  pub front : List ℕ
  pub spelled : AreSpellings rules xs front
  pub whole : text ≡ front ++ rest
  pub no_more : (x : Datum) (next beyond : List ℕ) → IsSpelling rules x next → rest ≡ next ++ beyond → ⊥

-- the place where a rest stops being viable, and the rule: the last byte of its shortest prefix that is not viable
pub record FaultOf (rules : Rules) (rest : List ℕ) (rule : Rule) (at : ℕ) : Type 0 where
  pub front : List ℕ
  pub beyond : List ℕ
  pub whole : rest ≡ front ++ beyond
  pub place : at + 1 ≡ length front
  pub cause : IsCause rules front rule
  pub first : (before : List ℕ) (byte : ℕ) (after : List ℕ) → front ≡ before ++ byte ∷ after →
      IsViable rules WithinTotal before
