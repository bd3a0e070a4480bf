-- The result of one turn of the loop, for every front that was read and all events that the listener has received.
use Rattle.std.specs.Str.{byte}
use Rattle.std.specs.Prelude.{◌≡◌, ◌⊎◌, ◌+◌, ◌-◌, ◌*◌, get_or, Bool, true, false, ℕ, ◌<◌, ◌≤◌, List, ◌++◌, length, take, Result, Err, IfOk, IfErr}
use Rattle.resp_value.specs.Rules.{Rules, WithinTotal}
use Rattle.resp_value.specs.Spellings.{IsViable}
use Rattle.resp_value.specs.DoubleStages.{stage_needs}
use Rattle.resp_scan.specs.declared.doubles.DoubleRun.{DoubleRun}
use Rattle.resp_scan.specs.declared.event.Fault.{Fault}
use Rattle.resp_scan.specs.declared.event.Scanned.{Scanned}
use Rattle.resp_scan.specs.declared.event.ScanError as error
use Rattle.resp_scan.specs.declared.event.ScanError.TheVariants as stop
use Rattle.resp_scan.specs.declared.listen.Turn.{Turn}
use Rattle.resp_scan.specs.declared.listen.Turned.{Turned}
use Rattle.resp_scan.specs.declared.listen.Turn.TheVariants.{On, More, Done, Failed, Stopped}
use Rattle.resp_scan.specs.declared.machine.State.{State}
use Rattle.resp_scan.specs.declared.machine.State.TheVariants as state
use Rattle.resp_scan.specs.declared.machine.EventTag.{EventTag}
use Rattle.resp_scan.specs.declared.machine.EventTag.TheVariants as tag
use Rattle.resp_scan.specs.declared.event.TextKind.{TextKind}
use Rattle.resp_scan.specs.declared.event.TextKind.TheVariants as text
use Rattle.resp_scan.specs.Counts.{begin_count}
use Rattle.resp_scan.specs.Kinds.{rules_of}
use Rattle.resp_scan.specs.Listening.{HearsPiece, HearsRefusal, HearsValue, IfRefused, IfStopped, IfUsedUp, IfWhole, StopsAfter, WhereHeard, fault_of}
use Rattle.resp_scan.specs.Machine.Tokens.{Place}
use Rattle.resp_scan.specs.Machine.Owed.{events_owed}
use Rattle.resp_scan.specs.Machine.Sound.{IsSound}
use Rattle.resp_scan.specs.Reading.{AreDue, BeginDue, EndsValue, Events, HasRead, IsFaulted, IsRefused, UsesUp}

-- the bytes used were read, and the listener has received their events too
pub record GoesOn (t : Place) (HasHeard : Events → Type 0) (front : List ℕ) (given : Events) (piece : List ℕ)
    (used : ℕ) : Type 0 where
  pub told : Events
  pub reads : HasRead t (front ++ take used piece) (given ++ told)
  pub heard : HasHeard (given ++ told)

-- a byte was rejected, and the fault is final
pub record LeadsToFault (r : Rules) (t : Place) (front : List ℕ) (given : Events) (piece : List ℕ) : Type 0 where
  pub fault : Fault
  pub kept : IsFaulted t fault
  pub refused : IsRefused r front given piece fault

-- The listener has stopped, after the first of the events of the bytes read. At most one value begins in the others.
pub record Stops (r : Rules) (t : Place) (HasStopped : Events → Type 0) (front piece : List ℕ) (used : ℕ) : Type 0 where
  pub told : Events
  pub has_stopped : HasStopped told
  pub later : Events
  pub first_due : BeginDue (front ++ take used piece) told
  pub all_due : AreDue (front ++ take used piece) (told ++ later)
  pub begins_one : begin_count later ≤ 1
  pub viable : IsViable r WithinTotal (front ++ take used piece)
  pub taken : t.taken ≡ length (front ++ take used piece)

-- the result of one turn
abbrev pub OutcomeOfTurn : Place → Place → (Events → Type 0) → (Events → Type 0) → List ℕ → Events → List ℕ → ℕ → Turn →
    Type 0
OutcomeOfTurn s t HasHeard HasStopped front given piece used On = GoesOn t HasHeard front given piece used
OutcomeOfTurn s t HasHeard HasStopped front given piece used More = UsesUp t front given piece used × HasHeard given
OutcomeOfTurn s t HasHeard HasStopped front given piece used Done = EndsValue (rules_of s) t front given used ×
    HasHeard given
OutcomeOfTurn s t HasHeard HasStopped front given piece used Failed = LeadsToFault (rules_of s) t front given piece ×
    HasHeard given
OutcomeOfTurn s t HasHeard HasStopped front given piece used Stopped = Stops (rules_of s) t HasStopped front piece used

-- A turn leads from one sound place to another. A turn that uses no byte gives an event that is due, so the turns end.
pub record IsTurn (O : Type 0) (s t : Place) (HadHeard HasHeard HasStopped : O → Events → Type 0) (piece : List ℕ)
    (turned : Turned) : Type 0 where
  pub sound : IsSound t
  pub rules : rules_of t ≡ rules_of s
  pub within : turned.used ≤ length piece
  pub whole_piece : turned.turn ≡ More → turned.used ≡ length piece
  pub dead : (fault : Fault) → IsFaulted s fault → (turned.turn ≡ Failed) × (t ≡ s)
  pub nearer : turned.turn ≡ On → turned.used ≡ 0 → length (events_owed t) < length (events_owed s)
  pub outcome : (since : O) (front : List ℕ) (given : Events) → HasRead s front given → HadHeard since given →
      OutcomeOfTurn s t (HasHeard since) (HasStopped since) front given piece turned.used turned.turn

-- The result of the loop over a piece, in the words of the contract of a scan. The place that it leaves is sound.
pub record IsScanned (O : Type 0) (s t : Place) (HadHeard HasHeard HasStopped : O → Events → Type 0) (piece : List ℕ)
    (result : Result Scanned error.ScanError) : Type 0 where
  pub sound : IsSound t
  pub value_whole : WhereHeard s HadHeard (λ since front.
      IfWhole result (λ used. HearsValue (rules_of s) t (HasHeard since) (front ++ take used piece)))
  pub used_up : WhereHeard s HadHeard (λ since front. IfUsedUp result (HearsPiece t (HasHeard since) (front ++ piece)))
  pub refusal : WhereHeard s HadHeard (λ since front.
      IfRefused result (HearsRefusal (rules_of s) (HasHeard since) front piece))
  pub stopped : WhereHeard s HadHeard (λ since front.
      IfStopped result (StopsAfter (rules_of s) (HasStopped since) front piece))
  pub within_piece : IfOk result (λ scanned. scanned.used ≤ length piece)
  pub whole_piece : IfOk result (λ scanned. scanned.is_whole ≡ false → scanned.used ≡ length piece)
  pub same_rules : rules_of t ≡ rules_of s
  pub fault_is_kept : IfErr result (λ stop. IsFaulted t (fault_of stop))
  pub fault_is_final : (fault : Fault) → IsFaulted s fault → (result ≡ Err (stop.Fault fault)) × (t ≡ s)

-- the result of a listener's decision
abbrev pub turn_of : Bool → Turn
turn_of true = On
turn_of false = Stopped

-- the tags of simple strings and errors
abbrev pub IsLineTag : EventTag → TextKind → Type 0
IsLineTag tag.Simple kind = kind ≡ text.Simple
IsLineTag tag.Error kind = kind ≡ text.Error
IsLineTag _ kind = ⊥

-- CR LF is at this index of the piece
pub record EndsAt (piece : List ℕ) (at : ℕ) : Type 0 where
  pub within : at + 2 ≤ length piece
  pub cr : get_or piece at 0 ≡ byte "\r"
  pub lf : get_or piece (at + 1) 0 ≡ byte "\n"

-- the bytes of a double end at this index, at a stage at which a double may end
pub record EndsDouble (run : DoubleRun) (at : ℕ) : Type 0 where
  pub counts : run.count ≡ at
  pub may_end : stage_needs run.stage ≡ 0

-- a digit is at this index of the piece
abbrev pub HasDigitAt : List ℕ → ℕ → Type 0
HasDigitAt piece at = (byte "0" ≤ get_or piece at 0) × (get_or piece at 0 ≤ byte "9")

-- the first byte of the piece is followed by one digit, this number, and by CR LF, which end the head
pub record HasOneDigit (piece : List ℕ) (head n : ℕ) : Type 0 where
  pub ends : head ≡ 4
  pub digit : HasDigitAt piece 1
  pub cr : get_or piece 2 0 ≡ byte "\r"
  pub lf : get_or piece 3 0 ≡ byte "\n"
  pub valued : n ≡ get_or piece 1 0 - byte "0"

-- or two digits
pub record HasTwoDigits (piece : List ℕ) (head n : ℕ) : Type 0 where
  pub ends : head ≡ 5
  pub first : HasDigitAt piece 1
  pub second : HasDigitAt piece 2
  pub cr : get_or piece 3 0 ≡ byte "\r"
  pub lf : get_or piece 4 0 ≡ byte "\n"
  pub valued : n ≡ (get_or piece 1 0 - byte "0") * 10 + (get_or piece 2 0 - byte "0")

-- the first byte of the piece is followed by this number, in one or two digits
abbrev pub HasShortNumber : List ℕ → ℕ → ℕ → Type 0
HasShortNumber piece head n = HasOneDigit piece head n ⊎ HasTwoDigits piece head n

-- the number of bytes of counted content still to come, in a state that has such a count
abbrev pub LeavesContent : State → ℕ → ℕ → Type 0
LeavesContent state.Content count left = left ≡ count
LeavesContent state.ContentCr count left = left ≡ 0
LeavesContent _ count left = ⊥
