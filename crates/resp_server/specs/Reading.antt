-- The bytes that a session has read of a value.
use Rattle.std.specs.Prelude.{◌≡◌, ◌⊎◌, ℕ, Bool, true, List, [], length, Option, None, Some}
use Rattle.resp_value.specs.Rules.{Rules, WithinTotal}
use Rattle.resp_value.specs.Spellings.{IsSpelling, IsViable}
use Rattle.resp_value.specs.Values.{datum_of}
use Rattle.resp_value.specs.declared.value.Value.{Value}
use Rattle.resp_value.specs.declared.cause.Cause.TheVariants.{OutOfMemory}
use Rattle.resp_scan.specs.Reading.{HasNoValue}
use Rattle.resp_scan.specs.declared.event.Fault.{Fault}
use Rattle.resp_decode.specs.Decoding as decoding
use Rattle.resp_decode.specs.Decoding.{RefusesByte}
use Rattle.resp_decode.specs.declared.decoder.Decoder.{Decoder}

-- the reader of a session: a decoder, or no decoder between two values
abbrev pub Reading : Type 0
Reading = Option Decoder

-- the bytes of this front were read of a value
abbrev pub HasReadFront : Reading → List ℕ → Type 0
HasReadFront None front = front ≡ []
HasReadFront (Some decoder) front = decoding.HasTaken decoder front

-- this holds of every front that was read
abbrev pub WhereFrontRead : Reading → (List ℕ → Type 0) → Type 0
WhereFrontRead reading P = (front : List ℕ) → HasReadFront reading front → P front

-- the reader uses these rules
abbrev pub ReadsBy : Rules → Reading → Type 0
ReadsBy rules None = Unit {0}
ReadsBy rules (Some decoder) = decoding.rules_of decoder ≡ rules

-- between two values there is no decoder, and a session that is closing has no decoder either
pub record HoldsNoIdleDecoder (closing : Bool) (reading : Reading) : Type 0 where
  pub between : HasReadFront reading [] → reading ≡ None
  pub at_end : closing ≡ true → reading ≡ None

-- the text is a spelling of the value, and no byte of the next value was read
pub record ReadsValue (rules : Rules) (reading : Reading) (written : List ℕ) (value : Value) : Type 0 where
  pub spelling : IsSpelling rules (datum_of value) written
  pub takes : HasReadFront reading []

-- the piece is used up: no value has ended in the text, which is viable and was read
pub record ReadsOn (rules : Rules) (reading : Reading) (written piece : List ℕ) (used : ℕ) : Type 0 where
  pub whole_piece : used ≡ length piece
  pub no_value : HasNoValue written
  pub viable : IsViable rules WithinTotal written
  pub takes : HasReadFront reading written

-- a byte of the piece is rejected, or an allocation failed
abbrev pub RefusesReading : Rules → List ℕ → List ℕ → Fault → Type 0
RefusesReading rules front piece fault = RefusesByte rules front piece fault ⊎ (fault.cause ≡ OutOfMemory)
