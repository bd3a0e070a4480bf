-- Definitions for the worked examples.
use Rattle.std.specs.Prelude.{◌≡◌, true, false, ℕ, ℤ, List}
use Rattle.resp_value.specs.Bounds.{AreBounds}
use Rattle.resp_value.specs.Data.{Kind, Datum, scalar, aggregate, data_of_list, Int, Simple}
use Rattle.resp_value.specs.Rules.{Rules, Rule}
use Rattle.resp_value.specs.Spellings.{IsSpelling, IsCause, Cut, FaultOf}
use Rattle.resp_value.specs.declared.version.Version.TheVariants.{Two, Three}

-- an integer
abbrev pub integer : ℤ → Datum
integer i = scalar (Int i)

-- a simple string
abbrev pub simple : List ℕ → Datum
simple text = scalar (Simple text)

-- an aggregate of these members
abbrev pub aggregate_of : Kind → List Datum → Datum
aggregate_of kind members = aggregate kind (data_of_list members)

-- the text is an encoding of the value in both versions, under all limits
abbrev pub IsSpelledInBoth : List ℕ → Datum → Type 0
IsSpelledInBoth text x = (r : Rules) → AreBounds r.limits → IsSpelling r x text

-- the text is an encoding of the value in version 3, under all limits
abbrev pub IsSpelledInThree : List ℕ → Datum → Type 0
IsSpelledInThree text x = (r : Rules) → AreBounds r.limits → r.version ≡ Three → IsSpelling r x text

-- the text is an encoding of the value in version 3, under all limits that allow streamed forms
abbrev pub IsSpelledStreamed : List ℕ → Datum → Type 0
IsSpelledStreamed text x = (r : Rules) → AreBounds r.limits → r.version ≡ Three → r.limits.streamed ≡ true →
    IsSpelling r x text

-- the text is an encoding of the value in version 3, under all limits that allow doubles
abbrev pub IsSpelledWithDoubles : List ℕ → Datum → Type 0
IsSpelledWithDoubles text x = (r : Rules) → AreBounds r.limits → r.version ≡ Three → r.limits.doubles ≡ true →
    IsSpelling r x text

-- the text is not an encoding of any value, in any version and under any limits
abbrev pub SpellsNothing : List ℕ → Type 0
SpellsNothing text = (r : Rules) (x : Datum) → IsSpelling r x text → ⊥

-- the text is not an encoding of any value in version 2, under any limits
abbrev pub SpellsNothingInTwo : List ℕ → Type 0
SpellsNothingInTwo text = (r : Rules) (x : Datum) → r.version ≡ Two → IsSpelling r x text → ⊥

-- the text is not an encoding of any value if streamed forms are not allowed
abbrev pub SpellsNothingSwitchedOff : List ℕ → Type 0
SpellsNothingSwitchedOff text = (r : Rules) (x : Datum) → r.limits.streamed ≡ false → IsSpelling r x text → ⊥

-- the text is not an encoding of any value if doubles are not allowed
abbrev pub SpellsNothingWithoutDoubles : List ℕ → Type 0
SpellsNothingWithoutDoubles text = (r : Rules) (x : Datum) → r.limits.doubles ≡ false → IsSpelling r x text → ⊥

-- under all limits, this rule is the first that rejects the text
abbrev pub HasCause : List ℕ → Rule → Type 0
HasCause text rule = (r : Rules) → AreBounds r.limits → IsCause r text rule

-- under all limits, this rule is the first that rejects the text in version 3
abbrev pub HasCauseInThree : List ℕ → Rule → Type 0
HasCauseInThree text rule = (r : Rules) → AreBounds r.limits → r.version ≡ Three → IsCause r text rule

-- under all limits, the text is cut into these values and a rest, which this rule rejects at this place
abbrev pub IsCutWithFault : List ℕ → List Datum → List ℕ → Rule → ℕ → Type 0
IsCutWithFault text xs rest rule at = (r : Rules) → AreBounds r.limits → Cut r text xs rest × FaultOf r rest rule at
