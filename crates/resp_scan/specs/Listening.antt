-- The events that a listener receives, and its statements about them.
use Rattle.std.specs.Prelude.{◌≡◌, ℕ, ◌+◌, ◌≤◌, Bool, true, false, List, [], ◌∷◌, ◌++◌, length, take, MatchBool, Result, IfOk, IfErr}
use Rattle.resp_value.specs.Doubles.{IsDouble}
use Rattle.resp_value.specs.Bounds.{AreBounds}
use Rattle.resp_value.specs.Bytes.{IsLine}
use Rattle.resp_value.specs.Rules.{Rules, WithinTotal}
use Rattle.resp_value.specs.Spellings.{IsViable}
use Rattle.resp_fronts.specs.Events as e
use Rattle.resp_scan.specs.declared.event.TextKind.{TextKind}
use Rattle.resp_scan.specs.declared.event.TextKind.TheVariants as text
use Rattle.resp_scan.specs.declared.event.Fault.{Fault}
use Rattle.resp_scan.specs.declared.event.Scanned.{Scanned}
use Rattle.resp_scan.specs.declared.event.ScanError as error
use Rattle.resp_scan.specs.declared.event.ScanError.TheVariants as stop
use Rattle.resp_value.specs.declared.cause.Cause.TheVariants as cause
use Rattle.resp_scan.specs.Counts.{begin_count, close_count, open_count}
use Rattle.resp_scan.specs.Kinds.{content_events, rules_of, text_kind_of}
use Rattle.resp_scan.specs.Machine.Tokens.{Place}
use Rattle.resp_scan.specs.Reading.{AreDue, BeginDue, Events, HasNoValue, HasRead, IsRefused, IsValue}

-- These events may be given: they are a prefix of the events of a front that is viable under some rules. There are no
-- more of them than there may be bytes, and they leave no more aggregates open than the limit of depth allows.
pub record MayBeGiven (given : Events) : Type 0 where
  pub rules : Rules
  pub front : List ℕ
  pub limits_in_range : AreBounds rules.limits
  pub viable : IsViable rules WithinTotal front
  pub first_due : BeginDue front given
  pub few : length given ≤ rules.limits.total
  pub opened : close_count given ≤ open_count given
  pub nested : open_count given ≤ close_count given + rules.limits.depth

-- a listener that was to receive more events has stopped at the last of the first of them
pub record StopsWithin (HasStopped : Events → Type 0) (given more : Events) : Type 0 where
  pub told : Events
  pub later : Events
  pub parts : more ≡ told ++ later
  pub has_stopped : HasStopped (given ++ told)

-- A listener receives more events after those that it has received since any origin. If it continues, it has received
-- these events too since then. Otherwise it has stopped.
abbrev pub Hears : {O : Type 0} → (O → Events → Type 0) → (O → Events → Type 0) → (O → Events → Type 0) → Events →
    Bool → Type 0
Hears HadHeard HasHeard HasStopped more goes_on = (since : _) (given : Events) → HadHeard since given →
    MayBeGiven (given ++ more) →
    MatchBool goes_on (HasHeard since (given ++ more)) (StopsWithin (HasStopped since) given more)

-- the events of a text that is passed in one call
abbrev pub whole_text_events : TextKind → List ℕ → Events
whole_text_events kind bytes = e.Text (text_kind_of kind) ∷ (content_events bytes ++ e.TextEnd ∷ [])

-- a simple string, a simple error, a double or a bulk string has these bytes: the first two are lines
abbrev pub IsTextOf : TextKind → List ℕ → Type 0
IsTextOf text.Simple bytes = IsLine bytes
IsTextOf text.Error bytes = IsLine bytes
IsTextOf text.Double bytes = IsDouble bytes
IsTextOf text.Bulk bytes = Unit {0}
IsTextOf _ bytes = ⊥

-- The results of a call over a piece, for every front that was read and the events that the listener has received of
-- it.

-- A value has ended: the text is that of some tree within the rules, the listener has received its events, and no byte
-- of the next value was read.
pub record HearsValue (r : Rules) (s : Place) (HasHeard : Events → Type 0) (written : List ℕ) : Type 0 where
  pub heard : Events
  pub is_value : IsValue r written heard
  pub has_heard : HasHeard heard
  pub reads : HasRead s [] []

-- The piece is used up: the bytes read are viable, no value has ended, and the listener has received all their events.
pub record HearsPiece (s : Place) (HasHeard : Events → Type 0) (written : List ℕ) : Type 0 where
  pub heard : Events
  pub viable : IsViable (rules_of s) WithinTotal written
  pub no_value : HasNoValue written
  pub all_due : AreDue written heard
  pub has_heard : HasHeard heard
  pub reads : HasRead s written heard

-- A byte was rejected: the listener has received all events before it.
pub record HearsRefusal (r : Rules) (HasHeard : Events → Type 0) (front piece : List ℕ) (fault : Fault) : Type 0 where
  pub heard : Events
  pub refused : IsRefused r front heard piece fault
  pub has_heard : HasHeard heard

-- The listener has stopped, after the first of the events of the bytes read. These bytes are viable. At most one value
-- begins in the events of these bytes that the listener was not told, so no byte was read beyond that value.
pub record StopsAfter (r : Rules) (HasStopped : Events → Type 0) (front piece : List ℕ) (taken : ℕ) : Type 0 where
  pub told : Events
  pub has_stopped : HasStopped told
  pub in_piece : length front ≤ taken
  pub within : taken ≤ length (front ++ piece)
  pub viable : IsViable r WithinTotal (take taken (front ++ piece))
  pub first_due : BeginDue (take taken (front ++ piece)) told
  pub later : Events
  pub all_due : AreDue (take taken (front ++ piece)) (told ++ later)
  pub begins_one : begin_count later ≤ 1

-- this holds of every front that the scanner has read, and of every origin since which the listener has received the
-- events given of it
abbrev pub WhereHeard : {O : Type 0} → Place → (O → Events → Type 0) → (O → List ℕ → Type 0) → Type 0
WhereHeard s HasHeard P = (since : _) (front : List ℕ) (given : Events) → HasRead s front given →
    HasHeard since given → P since front

-- if a value has ended after this many bytes
abbrev pub IfWhole : Result Scanned error.ScanError → (ℕ → Type 0) → Type 0
IfWhole result P = IfOk result (λ scanned. scanned.is_whole ≡ true → P scanned.used)

-- if no value has ended, and the piece was used up
abbrev pub IfUsedUp : Result Scanned error.ScanError → Type 0 → Type 0
IfUsedUp result P = IfOk result (λ scanned. scanned.is_whole ≡ false → P)

-- if it is a fault
abbrev pub OnFault : error.ScanError → (Fault → Type 0) → Type 0
OnFault (stop.Fault fault) P = P fault
OnFault (stop.Stopped taken) P = Unit {0}

-- if a byte was rejected
abbrev pub IfRefused : Result Scanned error.ScanError → (Fault → Type 0) → Type 0
IfRefused result P = IfErr result (λ stop. OnFault stop P)

-- if it is the listener's stop
abbrev pub OnStopped : error.ScanError → (ℕ → Type 0) → Type 0
OnStopped (stop.Fault fault) P = Unit {0}
OnStopped (stop.Stopped taken) P = P taken

-- if the listener stopped, the number of bytes read
abbrev pub IfStopped : Result Scanned error.ScanError → (ℕ → Type 0) → Type 0
IfStopped result P = IfErr result (λ stop. OnStopped stop P)

-- the fault after this error
abbrev pub fault_of : error.ScanError → Fault
fault_of (stop.Fault fault) = fault
fault_of (stop.Stopped taken) = record { cause = cause.OutOfMemory; at = taken }
