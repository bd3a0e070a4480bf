-- A statement about every text, in terms of the grammar's definitions alone. The scanner decides it.
use Rattle.std.specs.Prelude.{◌≡◌, ◌⊎◌, ℕ, List}
use Rattle.resp_value.specs.Bounds.{AreBounds}
use Rattle.resp_value.specs.Bytes.{IsText}
use Rattle.resp_value.specs.Rules.{Rules, Rule, WithinTotal}
use Rattle.resp_value.specs.Spellings.{FaultOf, IsViable}

-- the text stops being viable at one byte, because of one rule
abbrev pub HasOneFault : Rules → List ℕ → Type 0
HasOneFault r text = (rule : Rule) × (at : ℕ) × FaultOf r text rule at ×
    ((other : Rule) (place : ℕ) → FaultOf r text other place → (other ≡ rule) × (place ≡ at))

-- every text of bytes is viable within the rules, or has exactly one cause at exactly one first byte
abbrev pub EveryTextIsJudged : Type 0
EveryTextIsJudged = (r : Rules) (text : List ℕ) → AreBounds r.limits → IsText text →
    IsViable r WithinTotal text ⊎ HasOneFault r text
