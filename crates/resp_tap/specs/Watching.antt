-- The results that a tap reports for the bytes of either side, in terms of texts and values.
use Rattle.std.specs.Prelude.{◌≡◌, ◌≢◌, ◌⊎◌, ℕ, ◌+◌, ◌≤◌, ◌<◌, ◌^◌, true, false, if◌then◌else◌, Bool, Option, None, Some, List, [], ◌∷◌, ◌++◌, length, take}
use Rattle.resp_value.specs.Bounds.{Bounds}
use Rattle.resp_value.specs.Data.{Datum}
use Rattle.resp_value.specs.Rules.{Rules, WithinTotal, rules_under}
use Rattle.resp_value.specs.Spellings.{IsSpelling, IsViable}
use Rattle.resp_value.specs.declared.cause.Cause.{Cause}
use Rattle.resp_value.specs.declared.cause.Cause.TheVariants as causes
use Rattle.resp_value.specs.declared.value.Value.TheVariants as value
use Rattle.resp_value.specs.declared.version.Version.TheVariants.{Two}
use Rattle.resp_value.specs.declared.cut_value.CutValue.{CutValue}
use Rattle.resp_scan.specs.Reading.{HasNoValue}
use Rattle.resp_scan.specs.declared.event.Fault.{Fault}
use Rattle.resp_session.specs.Commands.{NoCommand, Nothing, array_meaning, meaning_of}
use Rattle.resp_session.specs.Heard.{is_push}
use Rattle.resp_tap.specs.Kinds.{command_kind}
use Rattle.resp_tap.specs.Lines.{LineState, due_of, number_for}
use Rattle.resp_tap.specs.Parts.{AreKeptOf, IsKeptOf}
use Rattle.resp_tap.specs.Sides.{HasSent, RefusesSide}
use Rattle.resp_tap.specs.Taps.{TapState, tap_state, with_command, with_refused_command, with_refused_reply, with_value}
use Rattle.resp_tap.specs.declared.kind.CommandKind.{CommandKind}
use Rattle.resp_tap.specs.declared.kind.CommandKind.TheVariants.{Unpairing}
use Rattle.resp_tap.specs.declared.line.Due.{Due}
use Rattle.resp_tap.specs.declared.seen.Place.{Place}
use Rattle.resp_tap.specs.declared.seen.Place.TheVariants as place
use Rattle.resp_tap.specs.declared.seen.Seen.{Seen}
use Rattle.resp_tap.specs.declared.seen.Seen.TheVariants as seen
use Rattle.resp_tap.specs.declared.tap.Tap.{Tap}

-- the rules for the client's bytes, in either version
abbrev pub request_rules : Bounds → Rules
request_rules limits = rules_under Two limits

-- the rules for the server's last value
abbrev pub value_rules : TapState → Rules
value_rules s = rules_under s.reading s.limits

-- The bytes that a tap has read of the client's incomplete value. Callers do not need the definition: `new` establishes
-- this relation and the next one, and each call preserves them until the first error.
abbrev pub HasTakenRequest : Tap → List ℕ → Type 0
HasTakenRequest t front = HasSent t.requests front

-- the bytes that a tap has read of the server's incomplete value
abbrev pub HasTakenValue : Tap → List ℕ → Type 0
HasTakenValue t front = HasSent t.values front

-- Until the first error of the client, a tap has read some bytes of the client's incomplete value.
abbrev pub HasTakenSomeRequest : Tap → Type 0
HasTakenSomeRequest t = (tap_state t).reads_commands ≡ true → ∥ ((front : List ℕ) × HasTakenRequest t front) ∥₁

-- until the first error of the server, it has read some bytes of the server's incomplete value
abbrev pub HasTakenSomeValue : Tap → Type 0
HasTakenSomeValue t = (tap_state t).reads_replies ≡ true → ∥ ((front : List ℕ) × HasTakenValue t front) ∥₁

-- P holds of all bytes that were read of the client's incomplete value
abbrev pub WhereRequested : Tap → (List ℕ → Type 0) → Type 0
WhereRequested t P = (front : List ℕ) → HasTakenRequest t front → P front

-- P holds of all bytes that were read of the server's incomplete value
abbrev pub WhereAnswered : Tap → (List ℕ → Type 0) → Type 0
WhereAnswered t P = (front : List ℕ) → HasTakenValue t front → P front

-- the bytes read of the client's value stay the same
abbrev pub KeepsRequest : Tap → Tap → Type 0
KeepsRequest old new = (front : List ℕ) → HasTakenRequest old front → HasTakenRequest new front

-- the bytes read of the server's value stay the same
abbrev pub KeepsValue : Tap → Tap → Type 0
KeepsValue old new = (front : List ℕ) → HasTakenValue old front → HasTakenValue new front

-- The client's text is the next command, of whose words this is kept. The first word is its name, and how the command is
-- answered follows from the whole words.
pub record GivesCommand (s : TapState) (new : Tap) (written : List ℕ) (number : ℕ) (words : List (List ℕ))
    (lengths : List ℕ) : Type 0 where
  pub whole : List (List ℕ)
  pub some : 0 < length whole
  pub value : Datum
  pub spelled : IsSpelling (request_rules s.limits) value written
  pub means : meaning_of value ≡ array_meaning (Some whole)
  pub are_kept : AreKeptOf s.shown s.kept whole words lengths
  pub numbered : number ≡ s.commands + 1
  pub after : tap_state new ≡ with_command (command_kind whole) s
  pub takes : HasTakenRequest new []

-- the client's text is an empty array or a null, which is ignored
pub record GivesNothing (s : TapState) (new : Tap) (written : List ℕ) : Type 0 where
  pub value : Datum
  pub spelled : IsSpelling (request_rules s.limits) value written
  pub means : meaning_of value ≡ Nothing
  pub after : tap_state new ≡ s
  pub takes : HasTakenRequest new []

-- the client's text is a value that is not a command
pub record GivesNoCommand (s : TapState) (new : Tap) (written : List ℕ) (number : ℕ) : Type 0 where
  pub value : Datum
  pub spelled : IsSpelling (request_rules s.limits) value written
  pub means : meaning_of value ≡ NoCommand
  pub numbered : number ≡ s.commands + 1
  pub after : tap_state new ≡ with_refused_command s

-- the whole piece was read: the client's value is incomplete, and a valid value can begin with its bytes
pub record AwaitsRequest (s : TapState) (new : Tap) (written piece : List ℕ) (used : ℕ) : Type 0 where
  pub whole_piece : used ≡ length piece
  pub no_value : HasNoValue written
  pub viable : IsViable (request_rules s.limits) WithinTotal written
  pub after : tap_state new ≡ s
  pub takes : HasTakenRequest new written

-- Why a command with these words is rejected: too many commands wait, all numbers are used, or an allocation failed. An
-- allocation is needed only if the command waits.
abbrev pub IsLeftOut : TapState → List (List ℕ) → Cause → Type 0
IsLeftOut s words cause =
    ((cause ≡ causes.TooMany) × ((2 ^ 20 ≤ length s.line.due) ⊎ (2 ^ 63 ≤ s.commands))) ⊎
    ((cause ≡ causes.OutOfMemory) × (s.line.is_lost ≡ false) ×
    (due_of (s.commands + 1) (command_kind words) s.line.is_open ≢ []))

-- the client's text is a command, which is rejected at its end
pub record LeavesOut (s : TapState) (written : List ℕ) (cause : Cause) : Type 0 where
  pub value : Datum
  pub words : List (List ℕ)
  pub spelled : IsSpelling (request_rules s.limits) value written
  pub means : meaning_of value ≡ array_meaning (Some words)
  pub left_out : IsLeftOut s words cause

-- why the client's bytes are rejected: by the grammar, because an allocation failed, or because a complete command is
-- rejected
abbrev pub RefusesOfRequest : TapState → List ℕ → List ℕ → ℕ → Cause → ℕ → Type 0
RefusesOfRequest s front piece used cause at =
    RefusesSide (request_rules s.limits) front piece (record { cause = cause; at = at }) ⊎
    (LeavesOut s (front ++ take used piece) cause × (at ≡ 0))

-- the client's bytes are rejected, as part of the next command
pub record RefusesRequestAt (s : TapState) (new : Tap) (front piece : List ℕ) (used : ℕ) (cause : Cause) (at : ℕ)
    (where' : Place) : Type 0 where
  pub refused : RefusesOfRequest s front piece used cause at
  pub place : where' ≡ place.Command (s.commands + 1)
  pub after : tap_state new ≡ with_refused_command s

-- the result for the bytes of the client
abbrev pub SeesRequest : TapState → Tap → List ℕ → List ℕ → ℕ → Seen → Type 0
SeesRequest s new front piece used seen.Nothing = AwaitsRequest s new (front ++ piece) piece used
SeesRequest s new front piece used seen.Passed = GivesNothing s new (front ++ take used piece)
SeesRequest s new front piece used (seen.Command number words lengths) =
    GivesCommand s new (front ++ take used piece) number words lengths.items
SeesRequest s new front piece used (seen.NotCommand number) = GivesNoCommand s new (front ++ take used piece) number
SeesRequest s new front piece used (seen.Refused cause at where') =
    RefusesRequestAt s new front piece used cause at where'
SeesRequest s new front piece used _ = ⊥

-- The server's text is a value, of which this is kept. It is a push or not, belongs to the command with this number if
-- there is one, and changes the line.
pub record HearsValue (s : TapState) (new : Tap) (written : List ℕ) (kept : CutValue) (push : Bool) (number : Option ℕ) :
    Type 0 where
  pub whole : Datum
  pub spelled : IsSpelling (value_rules s) whole written
  pub is_kept : IsKeptOf s.shown whole kept
  pub pushed : is_push whole ≡ push
  pub numbered : number_for s.line whole ≡ number
  pub after : tap_state new ≡ with_value whole s
  pub takes : HasTakenValue new []

-- the whole piece was read: the server's value is incomplete, and a valid value can begin with its bytes
pub record AwaitsValue (s : TapState) (new : Tap) (written piece : List ℕ) (used : ℕ) : Type 0 where
  pub whole_piece : used ≡ length piece
  pub no_value : HasNoValue written
  pub viable : IsViable (value_rules s) WithinTotal written
  pub after : tap_state new ≡ s
  pub takes : HasTakenValue new written

-- why the server's bytes are rejected: by the grammar, or because an allocation failed
abbrev pub RefusesOfValue : TapState → List ℕ → List ℕ → Fault → Type 0
RefusesOfValue s front piece fault = RefusesSide (value_rules s) front piece fault

-- a value that may be the reply to a command of this kind and number
abbrev pub place_by_kind : ℕ → CommandKind → Place
place_by_kind number Unpairing = place.Value
place_by_kind number kind = place.Reply number

abbrev pub place_by_due : List Due → Place
place_by_due [] = place.Value
place_by_due (first ∷ due) = place_by_kind first.number first.kind

-- the place of a value that begins in this state
abbrev pub place_on : LineState → Place
place_on l = if l.is_lost then place.Value else place_by_due l.due

-- the reply or value that contains a wrong byte of the server
abbrev pub place_of_value : TapState → Place
place_of_value s = place_on s.line

-- the server's bytes are rejected
pub record RefusesValueAt (s : TapState) (new : Tap) (front piece : List ℕ) (cause : Cause) (at : ℕ) (where' : Place) :
    Type 0 where
  pub refused : RefusesOfValue s front piece (record { cause = cause; at = at })
  pub place : where' ≡ place_of_value s
  pub after : tap_state new ≡ with_refused_reply s

-- the result for the bytes of the server, if this state holds before the value's next byte
abbrev pub SeesValue : TapState → Tap → List ℕ → List ℕ → ℕ → Seen → Type 0
SeesValue s new front piece used seen.Nothing = AwaitsValue s new (front ++ piece) piece used
SeesValue s new front piece used (seen.Reply number kept) =
    HearsValue s new (front ++ take used piece) kept false (Some number)
SeesValue s new front piece used (seen.Push members lengths) =
    HearsValue s new (front ++ take used piece) (record { value = value.Push members; lengths = lengths }) true None
SeesValue s new front piece used (seen.Value kept) = HearsValue s new (front ++ take used piece) kept false None
SeesValue s new front piece used (seen.Refused cause at where') = RefusesValueAt s new front piece cause at where'
SeesValue s new front piece used _ = ⊥
