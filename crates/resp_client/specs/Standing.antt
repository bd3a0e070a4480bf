-- The states of a client: it has read some front of a value, or it has a final fault.
use Rattle.std.specs.Prelude.{◌≡◌, ◌⊎◌, ◌≤◌, ℕ, Option, None, Some, List, []}
use Rattle.resp_value.specs.Bounds.{Bounds}
use Rattle.resp_value.specs.Causes.{number_of}
use Rattle.resp_value.specs.declared.cause.Cause.{Cause}
use Rattle.resp_scan.specs.declared.event.Fault.{Fault}
use Rattle.resp_decode.specs.Decoding.{HasTaken, rules_of}
use Rattle.resp_decode.specs.declared.decoder.Decoder.{Decoder}
use Rattle.resp_session.specs.Reading.{IsUnasked, Waiting, reading_rules}

-- the decoder has read the bytes of this front, under the rules for reading the value, and the value was requested
pub record TakesFront (limits : Bounds) (w : Waiting) (d : Decoder) (fault : Option Fault) (front : List ℕ) :
    Type 0 where
  pub taken : HasTaken d front
  pub same_limits : (rules_of d).limits ≡ limits
  pub read_by : (front ≡ []) ⊎ (rules_of d ≡ reading_rules limits w)
  pub asked : IsUnasked w front → ⊥
  pub no_fault : fault ≡ None

-- a cause of bytes received or of memory: its number is at most that of `Unasked`
abbrev pub IsOfBytes : Cause → Type 0
IsOfBytes cause = number_of cause ≤ 20

-- there is this fault, of bytes received, at a byte within the limits
abbrev pub StandsAtFault : Bounds → Option Fault → Fault → Type 0
StandsAtFault limits stands fault = (stands ≡ Some fault) × (fault.at ≤ limits.total) × IsOfBytes fault.cause

-- some front was read, or there is a fault
abbrev pub TakesOrStands : Bounds → Waiting → Decoder → Option Fault → Type 0
TakesOrStands limits w d stands =
    ((front : List ℕ) × TakesFront limits w d stands front) ⊎ ((fault : Fault) × StandsAtFault limits stands fault)
