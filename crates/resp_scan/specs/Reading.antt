-- The contracts of a step, in terms of texts and trees.
use Rattle.std.specs.Prelude.{◌≡◌, ◌⊎◌, ℕ, ◌+◌, ◌-◌, ◌<◌, ◌≤◌, List, [], ◌∷◌, ◌++◌, length, take, Option, None, Some, Result, IfOk, IfNone}
use Rattle.std.specs.List.{AllByRecursion}
use Rattle.resp_value.specs.Trees.{Tree, Spells}
use Rattle.resp_value.specs.Rules.{Rules, WithinTotal, Keeps}
use Rattle.resp_value.specs.Spellings.{IsViable}
use Rattle.resp_fronts.specs.Events.{all_events, events_due, events, without_places}
use Rattle.resp_fronts.specs.Events as e
use Rattle.resp_scan.specs.declared.event.Event.{Event}
use Rattle.resp_scan.specs.declared.event.Event.TheVariants as event
use Rattle.resp_scan.specs.declared.event.Step.{Step}
use Rattle.resp_scan.specs.declared.event.Fault.{Fault}
use Rattle.resp_scan.specs.Machine.Tokens.{Dead, Place}
use Rattle.resp_value.specs.Kinds.{kind_of}
use Rattle.resp_scan.specs.Kinds.{IsRefusedFor, content_events, rules_of, text_kind_of}
use Rattle.resp_scan.specs.Machine.Standing.{StandsAfter}

-- the events given since a value began, content byte by byte
abbrev pub Events : Type 0
Events = List e.Event

-- a byte was rejected, and every later call returns this fault
abbrev pub IsFaulted : Place → Fault → Type 0
IsFaulted s fault = (s.token ≡ Dead fault.cause) × (s.taken ≡ fault.at)

-- The bytes that a scanner has read since a value began are this front, and it has given these events of them. The
-- definition is opaque to callers: `new` establishes this relation, and `step` keeps it.
pub record HasRead (s : Place) (front : List ℕ) (given : Events) : Type 0 where
  pub stands : StandsAfter s front given
  pub taken : s.taken ≡ length front

-- this holds of every front that the scanner has read, and of the events given of it
abbrev pub WhereRead : Place → (List ℕ → Events → Type 0) → Type 0
WhereRead s P = (front : List ℕ) (given : Events) → HasRead s front given → P front given

-- the front is the text of some tree within the rules, and these are its events
pub record IsValue (r : Rules) (front : List ℕ) (given : Events) : Type 0 where
  pub tree : Tree
  pub spells : Spells tree front
  pub keeps : Keeps r WithinTotal tree
  pub told : given ≡ without_places (events 0 tree)

-- the front is the text of some tree within the rules
pub record IsSpelled (r : Rules) (front : List ℕ) : Type 0 where
  pub tree : Tree
  pub spells : Spells tree front
  pub keeps : Keeps r WithinTotal tree

-- the input may end after the front: no value has begun, or a value is complete
abbrev pub MayEnd : Rules → List ℕ → Type 0
MayEnd r front = (front ≡ []) ⊎ IsSpelled r front

-- these are the events so far of every tree whose text begins with the front
abbrev pub AreDue : List ℕ → Events → Type 0
AreDue front es = (rest : List ℕ) (whole : Tree) → Spells whole (front ++ rest) →
    events_due (length front) (all_events whole) ≡ es

-- these events are a prefix of the events so far of every tree whose text begins with the front
abbrev pub BeginDue : List ℕ → Events → Type 0
BeginDue front es = (rest : List ℕ) (whole : Tree) → Spells whole (front ++ rest) →
    (later : Events) × (events_due (length front) (all_events whole) ≡ es ++ later)

-- the text does not begin with a spelling, in any version and under any limits
abbrev pub HasNoValue : List ℕ → Type 0
HasNoValue text = (n : ℕ) (tree : Tree) → Spells tree (take n text) → ⊥

-- the text does not begin with a spelling within the rules
abbrev pub HasNoSpelling : Rules → List ℕ → Type 0
HasNoSpelling r text = (n : ℕ) → IsSpelled r (take n text) → ⊥

-- any event except the end of the value
abbrev pub IsNotDone : e.Event → Type 0
IsNotDone e.Done = ⊥
IsNotDone _ = Unit {0}

-- the value has not ended among these events
abbrev pub HasNoDone : Events → Type 0
HasNoDone given = AllByRecursion IsNotDone given

-- the events of an event of the program, content byte by byte
abbrev pub events_of : Event → Events
events_of event.Null = e.Null ∷ []
events_of (event.Bool truth) = e.Bool truth ∷ []
events_of (event.Int number) = e.Int number ∷ []
events_of (event.Text kind) = e.Text (text_kind_of kind) ∷ []
events_of (event.Part bytes) = content_events bytes.now
events_of event.TextEnd = e.TextEnd ∷ []
events_of (event.Open kind members) = e.Open (kind_of kind) members ∷ []
events_of event.Close = e.Close ∷ []
events_of event.Done = []

-- the number of bytes of an event itself: the content of a part, and otherwise the last byte that was read
abbrev pub own_bytes : Event → ℕ
own_bytes (event.Part bytes) = length bytes.now
own_bytes _ = 1

-- No event comes late: if bytes were used for it, all events that come before it were given before.
abbrev pub ComesInTime : List ℕ → Events → List ℕ → ℕ → Event → Type 0
ComesInTime front given piece used x = 0 < used → AreDue (front ++ take (used - own_bytes x) piece) given

-- Outcomes of a step.

-- if a step gave no event
abbrev pub IfNoEvent : Result Step Fault → (ℕ → Type 0) → Type 0
IfNoEvent result P = IfOk result (λ step. IfNone step.event (P step.used))

-- if the event is Done
abbrev pub OnDone : Option Event → Type 0 → Type 0
OnDone (Some event.Done) P = P
OnDone _ P = Unit {0}

-- if a step gave Done
abbrev pub IfDone : Result Step Fault → (ℕ → Type 0) → Type 0
IfDone result P = IfOk result (λ step. OnDone step.event (P step.used))

-- if there is an event other than Done
abbrev pub OnOtherEvent : Option Event → (Event → Type 0) → Type 0
OnOtherEvent None P = Unit {0}
OnOtherEvent (Some event.Done) P = Unit {0}
OnOtherEvent (Some event) P = P event

-- if a step gave an event other than Done
abbrev pub IfOtherEvent : Result Step Fault → (ℕ → Event → Type 0) → Type 0
IfOtherEvent result P = IfOk result (λ step. OnOtherEvent step.event (P step.used))

-- the piece is used up: the bytes read are viable, no value has ended, all their events were given, and the longer
-- front was read
pub record UsesUp (s : Place) (front : List ℕ) (given : Events) (piece : List ℕ) (used : ℕ) : Type 0 where
  pub whole_piece : used ≡ length piece
  pub viable : IsViable (rules_of s) WithinTotal (front ++ piece)
  pub no_value : HasNoValue (front ++ piece)
  pub all_due : AreDue (front ++ piece) given
  pub reads : HasRead s (front ++ piece) given

-- the bytes read are a value and the events given are its events; no byte was used, and no byte of the next value was
-- read
pub record EndsValue (r : Rules) (s : Place) (front : List ℕ) (given : Events) (used : ℕ) : Type 0 where
  pub no_byte : used ≡ 0
  pub is_value : IsValue r front given
  pub reads : HasRead s [] []

-- The bytes of the front and the piece before the fault are viable. Together with the next byte they are not, because
-- of the cause of the fault, the first in the order of the rules. All events before it were given, and no value has
-- ended.
pub record IsRefused (r : Rules) (front : List ℕ) (given : Events) (piece : List ℕ) (fault : Fault) : Type 0 where
  pub in_piece : length front ≤ fault.at
  pub before_end : fault.at < length (front ++ piece)
  pub viable : IsViable r WithinTotal (take fault.at (front ++ piece))
  pub refused : IsRefusedFor r (take (fault.at + 1) (front ++ piece)) fault.cause
  pub all_due : AreDue (take fault.at (front ++ piece)) given
  pub no_value : HasNoSpelling r (front ++ piece)
