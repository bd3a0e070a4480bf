-- The states of a decoder: it has read some front of a value, or it has a final fault.
use Rattle.std.specs.Prelude.{◌⊎◌, ℕ, List}
use Rattle.resp_scan.specs.Machine.Tokens.{Place}
use Rattle.resp_scan.specs.Reading.{AreDue, Events, HasNoValue, HasRead, IsFaulted}
use Rattle.resp_scan.specs.declared.event.Fault.{Fault}

-- the scanner has read the bytes of this front, no value has ended in them, and the values held are the result of
-- their events
pub record TakesFront (IsResultOf : Events → Type 0) (scanner : Place) (front : List ℕ) : Type 0 where
  pub given : Events
  pub reads : HasRead scanner front given
  pub heard : IsResultOf given
  pub all_due : AreDue front given
  pub no_value : HasNoValue front

-- the scanner returns this fault from now on, and nothing is held
abbrev pub StandsAtFault : Type 0 → Place → Fault → Type 0
StandsAtFault HoldsNothing scanner fault = IsFaulted scanner fault × HoldsNothing

-- some front was read, or there is a fault
abbrev pub TakesOrStands : (Events → Type 0) → Type 0 → Place → Type 0
TakesOrStands IsResultOf HoldsNothing scanner =
    ((front : List ℕ) × TakesFront IsResultOf scanner front) ⊎ ((fault : Fault) × StandsAtFault HoldsNothing scanner fault)
