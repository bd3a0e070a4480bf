-- The contracts of a decoder, in terms of texts and values.
use Rattle.std.specs.Prelude.{◌≡◌, ℕ, ◌≤◌, List, [], ◌++◌, length, take, None, Some, Result, IfOk}
use Rattle.resp_value.specs.Rules.{Rules, Rule, WithinTotal}
use Rattle.resp_value.specs.Spellings.{FaultOf, IsSpelling, IsViable}
use Rattle.resp_value.specs.Causes.{cause_of}
use Rattle.resp_value.specs.Values.{datum_of}
use Rattle.resp_value.specs.declared.value.Value.{Value}
use Rattle.resp_value.specs.declared.cause.Cause.TheVariants as cause
use Rattle.resp_scan.specs.Reading.{AreDue, Events, HasNoSpelling, HasNoValue}
use Rattle.resp_scan.specs.Kinds as kinds
use Rattle.resp_scan.specs.declared.event.Fault.{Fault}
use Rattle.resp_decode.specs.Brief.{BeginsBrief, BringMemoryWants}
use Rattle.resp_decode.specs.Builds.{built_from}
use Rattle.resp_decode.specs.Hearing.{HasHeard, HoldsNothing}
use Rattle.resp_decode.specs.Standing.{StandsAtFault, TakesFront}
use Rattle.resp_decode.specs.Weights.{weight_of}
use Rattle.resp_decode.specs.declared.decoder.Decoder.{Decoder}
use Rattle.resp_decode.specs.declared.fed.Fed.{Fed}

-- the version and the limits of a decoder
abbrev pub rules_of : Decoder → Rules
rules_of d = kinds.rules_of d.scanner

-- The bytes that a decoder has read of a value are this front. The definition is opaque to callers: `new` establishes
-- this relation, and `feed` keeps it until a fault.
abbrev pub HasTaken : Decoder → List ℕ → Type 0
HasTaken d front = TakesFront (HasHeard d.held) d.scanner front

-- this holds of every front that the decoder has read
abbrev pub WhereTaken : Decoder → (List ℕ → Type 0) → Type 0
WhereTaken d P = (front : List ℕ) → HasTaken d front → P front

-- every call returns this fault, and nothing is held
abbrev pub HasFault : Decoder → Fault → Type 0
HasFault d fault = StandsAtFault (HoldsNothing d.held) d.scanner fault

-- the weight of the partial value that the events of this front build
abbrev pub WeighsWhatIsDue : ℕ → List ℕ → Type 0
WeighsWhatIsDue weight front = (given : Events) × AreDue front given × (weight ≡ weight_of (built_from given))

-- if a value ends after this many bytes of the piece
abbrev pub IfValue : {A : Type 0} → Result (Fed A) Fault → (ℕ → A → Type 0) → Type 0
IfValue {A} result P = IfOk result (λ fed. (value : A) → fed.value ≡ Some value → P fed.used value)

-- if no value ends in the piece
abbrev pub IfNoValue : {A : Type 0} → Result (Fed A) Fault → (ℕ → Type 0) → Type 0
IfNoValue result P = IfOk result (λ fed. fed.value ≡ None → P fed.used)

-- the text is a spelling of the value within the rules, and no byte of the next value was read
pub record GivesValue (r : Rules) (d : Decoder) (written : List ℕ) (value : Value) : Type 0 where
  pub spelling : IsSpelling r (datum_of value) written
  pub takes : HasTaken d []

-- the piece is used up: the text does not begin with a spelling in any version or under any limits, it is viable within
-- the rules, and it was read
pub record TakesPiece (r : Rules) (Takes : List ℕ → Type 0) (written piece : List ℕ) (used : ℕ) : Type 0 where
  pub whole_piece : used ≡ length piece
  pub no_value : HasNoValue written
  pub viable : IsViable r WithinTotal written
  pub takes : Takes written

-- a byte of the piece is rejected: there the text stops being viable, because of the rule of the fault's cause, and the
-- text does not begin with a spelling within the rules
pub record RefusesByte (r : Rules) (front piece : List ℕ) (fault : Fault) : Type 0 where
  pub rule : Rule
  pub names : fault.cause ≡ cause_of rule
  pub fault_of : FaultOf r (front ++ piece) rule fault.at
  pub in_piece : length front ≤ fault.at
  pub no_value : HasNoSpelling r (front ++ piece)

-- an allocation failed, after viable bytes with an event that needs memory; so this never happens in an integer, a
-- boolean or a null of one line
pub record LacksMemory (r : Rules) (front piece : List ℕ) (fault : Fault) : Type 0 where
  pub names : fault.cause ≡ cause.OutOfMemory
  pub in_piece : length front ≤ fault.at
  pub within : fault.at ≤ length (front ++ piece)
  pub viable : IsViable r WithinTotal (take fault.at (front ++ piece))
  pub wanted : BringMemoryWants (take fault.at (front ++ piece))
  pub not_brief : BeginsBrief (front ++ piece) → ⊥
