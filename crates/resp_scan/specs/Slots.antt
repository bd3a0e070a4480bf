-- The contract of a step into a slot.
use Rattle.std.specs.Prelude.{◌≡◌, ℕ, ◌+◌, ◌-◌, ◌<◌, ◌≤◌, List, ◌++◌, length, take, drop, Option, None, Some, Result, Ok, Err, IfOk, IfErr}
use Rattle.resp_scan.specs.declared.event.Event.{Event}
use Rattle.resp_scan.specs.declared.event.Fault.{Fault}
use Rattle.resp_scan.specs.declared.event.Step.{Step}
use Rattle.resp_scan.specs.declared.event.TextKind.{TextKind}
use Rattle.resp_scan.specs.Kinds.{rules_of}
use Rattle.resp_scan.specs.Listening.{IsTextOf, whole_text_events}
use Rattle.resp_scan.specs.Machine.Tokens.{Place}
use Rattle.resp_scan.specs.Parts.{IsOfPiece}
use Rattle.resp_scan.specs.Reading.{AreDue, ComesInTime, EndsValue, Events, HasRead, IfDone, IfNoEvent, IfOtherEvent, IsFaulted, IsRefused, UsesUp, WhereRead, events_of}

-- a scanner that was in this state, and is in that state now, has returned this for a piece
pub record Steps (old new : Place) (piece : List ℕ) (result : Result Step Fault) : Type 0 where
  pub no_event : WhereRead old (λ front given. IfNoEvent result (UsesUp new front given piece))
  pub value_whole : WhereRead old (λ front given. IfDone result (EndsValue (rules_of old) new front given))
  pub another_event : WhereRead old (λ front given. IfOtherEvent result (λ used event.
      HasRead new (front ++ take used piece) (given ++ events_of event)))
  pub in_time : WhereRead old (λ front given. IfOtherEvent result (ComesInTime front given piece))
  pub refusal : WhereRead old (λ front given. IfErr result (IsRefused (rules_of old) front given piece))
  pub within_piece : IfOk result (λ step. step.used ≤ length piece)
  pub part_of_piece : IfOk result (λ step. IsOfPiece piece step)
  pub same_rules : rules_of new ≡ rules_of old
  pub fault_is_kept : IfErr result (IsFaulted new)
  pub fault_is_final : (fault : Fault) → IsFaulted old fault → (result ≡ Err fault) × (new ≡ old)

-- the bytes of a text before its CR LF are those of the piece before the last two bytes used
pub record IsTextOfPiece (piece : List ℕ) (used : ℕ) (bytes : List ℕ) : Type 0 where
  pub within : used ≤ length piece
  pub has_end : length bytes + 2 ≤ used
  pub lent : bytes ≡ take (length bytes) (drop (used - (length bytes + 2)) piece)

-- No text comes late: all events before the last byte of its head were given.
abbrev pub TextComesInTime : List ℕ → Events → List ℕ → ℕ → List ℕ → Type 0
TextComesInTime front given piece used bytes = length bytes + 2 < used →
    AreDue (front ++ take (used - (length bytes + 3)) piece) given

-- The scanner has read a text's head, its bytes and its CR LF from the piece, and its events are given.
pub record StepsOverText (old new : Place) (piece : List ℕ) (used : ℕ) (kind : TextKind) (bytes : List ℕ) : Type 0 where
  pub of_piece : IsTextOfPiece piece used bytes
  pub reads : WhereRead old (λ front given.
      HasRead new (front ++ take used piece) (given ++ whole_text_events kind bytes))
  pub in_time : WhereRead old (λ front given. TextComesInTime front given piece used bytes)
  pub same_rules : rules_of new ≡ rules_of old
  pub no_fault : (fault : Fault) → IsFaulted old fault → ⊥

-- the slot holds an event, for which this number of bytes was used
pub record ShowsEvent (Shows : Event → Type 0) (old new : Place) (piece : List ℕ) (used : ℕ) : Type 0 where
  pub event : Event
  pub shows : Shows event
  pub steps : Steps old new piece (Ok (record { used = used; event = Some event }))

-- the slot holds a text with its end, for which this number of bytes was used
pub record ShowsText (Shows : TextKind → List ℕ → Type 0) (old new : Place) (piece : List ℕ) (used : ℕ) : Type 0 where
  pub kind : TextKind
  pub bytes : List ℕ
  pub is_text : IsTextOf kind bytes
  pub shows : Shows kind bytes
  pub steps : StepsOverText old new piece used kind bytes

-- if an event or a text was passed, with the number of bytes used for it
abbrev pub IfShown : Result (Option ℕ) Fault → (ℕ → Type 0) → Type 0
IfShown (Ok (Some used)) P = P used
IfShown _ P = Unit {0}

-- if nothing was passed because the piece is used up
abbrev pub IfNothingShown : Result (Option ℕ) Fault → Type 0 → Type 0
IfNothingShown (Ok None) P = P
IfNothingShown _ P = Unit {0}

-- if nothing was passed, for whatever reason
abbrev pub IfNotShown : Result (Option ℕ) Fault → Type 0 → Type 0
IfNotShown (Ok (Some used)) P = Unit {0}
IfNotShown _ P = P
