-- Laws of the events of values.
use Rattle.std.specs.Prelude.{◌≡◌, ◌≤◌, ℕ, List, [], ◌∷◌, length}
use Rattle.resp_value.specs.Trees.{Tree}
use Rattle.resp_value.specs.TreeValues.{value}
use Rattle.resp_value.specs.Rules.{Rules, WithinTotal}
use Rattle.resp_value.specs.Data.{Datum}
use Rattle.resp_value.specs.Spellings.{IsSpelling, AreSpellings, IsViable}
use Rattle.resp_value.specs.declared.cause.Cause.TheVariants as cause
use Rattle.resp_fronts.specs.Events.{events, without_places}
use Rattle.resp_scan.specs.Reading.{BeginDue, Events}
use Rattle.resp_decode.specs.Builds.{built_from}
use Rattle.resp_decode.specs.Inputs.{RefusesInput}
use Rattle.resp_decode.specs.Weights.{weight_of}
use Rattle.resp_decode.specs.declared.all.AllFault.{AllFault}

-- trees with equal events have equal values
abbrev pub EqualEventsGiveEqualValues : Type 0
EqualEventsGiveEqualValues = (one other : Tree) →
    without_places (events 0 one) ≡ without_places (events 0 other) → value one ≡ value other

-- if a tree's text begins elsewhere, only the places of its events change
abbrev pub EventsAreTheSameElsewhere : Type 0
EventsAreTheSameElsewhere = (from elsewhere : ℕ) (tree : Tree) →
    without_places (events from tree) ≡ without_places (events elsewhere tree)

-- the state after the events of a viable front weighs no more than the front has bytes
abbrev pub WhatIsBuiltIsNoHeavier : Type 0
WhatIsBuiltIsNoHeavier = (r : Rules) (front : List ℕ) (given : Events) → IsViable r WithinTotal front →
    BeginDue front given → weight_of (built_from given) ≤ length front

-- a spelling of a value is read as this value alone
abbrev pub ASpellingIsReadAsItsValue : Type 0
ASpellingIsReadAsItsValue = (r : Rules) (x : Datum) (text : List ℕ) (values : List Datum) → IsSpelling r x text →
    AreSpellings r values text → values ≡ x ∷ []

-- reading a spelling of a value fails only when out of memory
abbrev pub ASpellingIsRefusedForMemoryAlone : Type 0
ASpellingIsRefusedForMemoryAlone = (r : Rules) (x : Datum) (text : List ℕ) (refusal : AllFault) → IsSpelling r x text →
    RefusesInput r text refusal → refusal.fault.cause ≡ cause.OutOfMemory
