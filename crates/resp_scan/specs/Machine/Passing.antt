-- One turn of the machine: the result of a step, or a text, that was passed to a receiver.
use Rattle.std.specs.Prelude.{◌≡◌, ◌⊎◌, ℕ, ◌≤◌, Bool, List, length, Option, None, Some, Result, Ok, Err, IfOk, IfErr}
use Rattle.resp_scan.specs.declared.event.Event.{Event}
use Rattle.resp_scan.specs.declared.event.Event.TheVariants as event
use Rattle.resp_scan.specs.declared.event.Fault.{Fault}
use Rattle.resp_scan.specs.declared.event.Step.{Step}
use Rattle.resp_scan.specs.declared.event.TextKind.{TextKind}
use Rattle.resp_scan.specs.declared.machine.Machine.{Machine}
use Rattle.resp_scan.specs.declared.machine.EventTag.TheVariants as tag
use Rattle.resp_scan.specs.declared.turn.Stands.{Stands}
use Rattle.resp_scan.specs.declared.turn.Stands.TheVariants as stands
use Rattle.resp_scan.specs.declared.listen.Turn.TheVariants.{More, Done, Failed}
use Rattle.resp_scan.specs.declared.listen.Turned.{Turned}
use Rattle.resp_scan.specs.Listening.{IsTextOf}
use Rattle.resp_scan.specs.Machine.Fields.{out_by, place_of}
use Rattle.resp_scan.specs.Machine.Scan.{out_from, scan}
use Rattle.resp_scan.specs.Machine.Sound.{IsSound}
use Rattle.resp_scan.specs.Machine.StepOutcomes.{after_step, out_of_step}
use Rattle.resp_scan.specs.Machine.Tokens.{AtStart, Place, at}
use Rattle.resp_scan.specs.Machine.Turns.{turn_of}
use Rattle.resp_scan.specs.Parts.{IsOfPiece}
use Rattle.resp_scan.specs.Reading.{Events, events_of}
use Rattle.resp_scan.specs.Slots.{StepsOverText}

-- the result of a step that gives this event
abbrev pub gives : ℕ → Event → Result Step Fault
gives used x = Ok (record { used = used; event = Some x })

-- the result of a step, with the machine after it
pub record StepAnswers (s : Place) (m : Machine) (piece : List ℕ) (result : Result Step Fault) : Type 0 where
  pub heard : out_of_step s.taken result (place_of m) ≡ after_step (out_from s piece)
  pub within : IfOk result (λ step. step.used ≤ length piece)
  pub lent : IfOk result (λ step. IsOfPiece piece step)
  pub whole_piece : IfOk result (λ step. step.event ≡ None → step.used ≡ length piece)
  pub counted : IfErr result (λ fault. fault.at ≡ m.taken)
  pub caused : IfErr result (λ fault. fault.cause ≡ m.cause)

-- a text passed in one call leads from one place to a sound one
pub record TellsText (s t : Place) (piece : List ℕ) (used : ℕ) (kind : TextKind) (bytes : List ℕ) : Type 0 where
  pub sound : IsSound t
  pub steps : StepsOverText s t piece used kind bytes

-- the result of a step was passed
pub record PassesStep (Takes : Result Step Fault → Type 0) (s : Place) (m : Machine) (piece : List ℕ) : Type 0 where
  pub step : Result Step Fault
  pub takes : Takes step
  pub answers : StepAnswers s m piece step

-- a text was passed in one call
pub record PassesText (Takes : ℕ → TextKind → List ℕ → Type 0) (s : Place) (m : Machine) (piece : List ℕ) : Type 0 where
  pub used : ℕ
  pub kind : TextKind
  pub bytes : List ℕ
  pub is_text : IsTextOf kind bytes
  pub takes : Takes used kind bytes
  pub tells : TellsText s (place_of m) piece used kind bytes

-- one turn: the receiver has taken the result of a step, or a text
abbrev pub Passes : (Result Step Fault → Type 0) → (ℕ → TextKind → List ℕ → Type 0) → Place → Machine → List ℕ → Type 0
Passes Takes TakesText s m piece = PassesStep Takes s m piece ⊎ PassesText TakesText s m piece

-- Where a turn begins: what is due at the place s, of bytes that were read, or the token in which the piece goes on.
abbrev pub StandsAt : Stands → Place → Machine → List ℕ → Type 0
StandsAt stands.Done s m piece = out_by tag.Done 0 m ≡ out_from s piece
StandsAt stands.Close s m piece = out_by tag.Close 0 m ≡ out_from s piece
StandsAt stands.Member s m piece =
    IsSound (at (place_of m) AtStart) × (out_from s piece ≡ scan 0 (at (place_of m) AtStart) piece)
StandsAt stands.Inside s m piece = IsSound (place_of m) × (out_from (place_of m) piece ≡ out_from s piece)

-- a listener was passed events, and has decided whether its turns go on
abbrev pub TurnsBy : ℕ → Turned → (Bool → Type 0) → Type 0
TurnsBy used turned Hears = (goes_on : Bool) × (turned ≡ record { used = used; turn = turn_of goes_on }) × Hears goes_on

-- the turn of a listener that was passed the event of a step, or is left as it was
abbrev pub HearsEvent : (Events → Bool → Type 0) → Type 0 → ℕ → Option Event → Turned → Type 0
HearsEvent Hears IsLeft used None turned = (turned ≡ record { used = used; turn = More }) × IsLeft
HearsEvent Hears IsLeft used (Some event.Done) turned = (turned ≡ record { used = used; turn = Done }) × IsLeft
HearsEvent Hears IsLeft used (Some x) turned = TurnsBy used turned (Hears (events_of x))

abbrev pub HearsStep : (Events → Bool → Type 0) → Type 0 → Result Step Fault → Turned → Type 0
HearsStep Hears IsLeft (Ok step) turned = HearsEvent Hears IsLeft step.used step.event turned
HearsStep Hears IsLeft (Err fault) turned = (turned ≡ record { used = 0; turn = Failed }) × IsLeft
