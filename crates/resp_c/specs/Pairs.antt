-- The reply that an event belongs to, whether the reply is an error, and the waiting commands, as C stores them.
use Rattle.std.specs.Prelude.{◌≡◌, ◌⊎◌, ◌&&◌, ℕ, zero, suc, ◌+◌, ◌-◌, Bool, true, false, List, [], ◌∷◌, ◌++◌, Option, None, Some, cond, eqb}
use Rattle.resp_value.specs.Data.{Kind, Attr, Push}
use Rattle.resp_value.specs.Trees.{Tree, IsTree, kind_byte}
use Rattle.resp_value.specs.TreeValues.{value}
use Rattle.resp_value.specs.declared.kind.OpenKind.TheVariants as kinds
use Rattle.resp_value.specs.declared.version.Version.{Version}
use Rattle.resp_fronts.specs.Events.{Event, TextKind, events, without_places}
use Rattle.resp_fronts.specs.Events as e
use Rattle.resp_scan.specs.declared.event.TextKind.TheVariants as texts
use Rattle.resp_session.specs.Reading.{Waiting, is_refusal}
use Rattle.resp_c.specs.EventNumbers.{bool_number, close_number, int_number, kind_form, null_number, open_number, text_form, text_number, whole_number}
use Rattle.resp_c.specs.Versions.{IsVersion, version_of}
use Rattle.resp_c.specs.declared.pairing.RespPairing.{RespPairing}

-- the state of a value after some events: how many aggregates are open, counted from the outermost aggregate that is
-- not an attribute; and whether the last value that is inside attributes alone, or inside nothing, is an error
pub record ValueLook : Type 0 where
  pub nested : ℕ
  pub refuses : Bool

-- a value inside aggregates other than attributes changes nothing
abbrev pub where_seen : ℕ → Bool → Bool → Bool
where_seen zero before now = now
where_seen (suc n) before now = before

-- an attribute that is inside nothing changes nothing, and another aggregate is no error
abbrev pub opened : ℕ → Bool → Kind → ValueLook
opened zero before Attr = record { nested = zero; refuses = before }
opened zero before _ = record { nested = suc zero; refuses = false }
opened (suc n) before _ = record { nested = suc (suc n); refuses = before }

abbrev pub closed : ℕ → ℕ
closed zero = zero
closed (suc n) = n

abbrev pub is_error_kind : TextKind → Bool
is_error_kind e.Error = true
is_error_kind e.BulkError = true
is_error_kind _ = false

-- a value that begins, an error or not
abbrev pub seen : ValueLook → Bool → ValueLook
seen look now = record { nested = look.nested; refuses = where_seen look.nested look.refuses now }

abbrev pub look_after_event : ValueLook → Event → ValueLook
look_after_event look e.Null = seen look false
look_after_event look (e.Bool truth) = seen look false
look_after_event look (e.Int number) = seen look false
look_after_event look (e.Text kind) = seen look (is_error_kind kind)
look_after_event look (e.Open kind members) = opened look.nested look.refuses kind
look_after_event look e.Close = record { nested = closed look.nested; refuses = look.refuses }
look_after_event look (e.Byte byte) = look
look_after_event look e.TextEnd = look
look_after_event look e.Done = look

-- after events, one after another
abbrev pub after_events : ValueLook → List Event → ValueLook
after_events look [] = look
after_events look (event ∷ events) = after_events (look_after_event look event) events

-- the state at the beginning of a value
abbrev pub new_look : ValueLook
new_look = record { nested = 0; refuses = false }

-- the events of a value show at its end whether it is an error reply
abbrev pub TheEventsShowARefusal : Type 0
TheEventsShowARefusal = (tree : Tree) → IsTree tree →
    after_events new_look (without_places (events 0 tree)) ≡ record { nested = 0; refuses = is_refusal (value tree) }

-- this many commands that request no version
abbrev pub nones : ℕ → List (Option Version)
nones zero = []
nones (suc n) = None ∷ nones n

-- the version requested by a command that was queued with this number
abbrev pub ask_of : ℕ → Option Version
ask_of zero = None
ask_of (suc n) = Some (version_of (suc n))

-- the HELLO of this version and this many commands after it, or nothing if the version is 0
abbrev pub hello_asks : ℕ → ℕ → List (Option Version)
hello_asks zero beyond = []
hello_asks (suc n) beyond = Some (version_of (suc n)) ∷ nones beyond

-- the commands that wait
abbrev pub waiting_of : RespPairing → Waiting
waiting_of p = record { version = version_of p.version; asks = nones p.before ++ hello_asks p.hello p.beyond }

-- the state after the events of the value so far
abbrev pub look_of : RespPairing → ValueLook
look_of p = record { nested = p.nested; refuses = eqb p.refuses 1 }

-- no command can be queued that so many pushes answer: there is no push, the version is not 3, or a HELLO waits
abbrev pub HasNoPushes : RespPairing → ℕ → Type 0
HasNoPushes p pushes = (pushes ≡ 0) ⊎ (p.version ≡ 3 → ⊥) ⊎ (p.hello ≡ 0 → ⊥)

-- a number that requests no version, or a version
abbrev pub IsAsk : ℕ → Type 0
IsAsk hello = (hello ≡ 0) ⊎ IsVersion hello

-- the version of a pairing, and the version that the waiting HELLO requests, are versions
pub record HasVersions (p : RespPairing) : Type 0 where
  pub version : IsVersion p.version
  pub asked : IsAsk p.hello

-- one more command waits
abbrev pub with_ask_queued : Option Version → Waiting → Waiting
with_ask_queued ask w = record { version = w.version; asks = w.asks ++ ask ∷ [] }

-- whether the value is a push
abbrev pub reads_push : RespPairing → Bool
reads_push p = eqb p.first (kind_byte Push)

-- whether the value is the last push that answers the command which waits first
abbrev pub is_last_push : RespPairing → Bool
is_last_push p = reads_push p && (eqb p.pushes 1 && eqb p.before_pushes 0)

-- the pushes that are left, after a value, of the command that pushes answer: a push counts if the command waits first,
-- and a reply to it, which is an error, ends its wait
abbrev pub pushes_after : RespPairing → ℕ
pushes_after p = cond (eqb p.before_pushes 0) (cond (reads_push p) (p.pushes - 1) 0) p.pushes

-- the commands that wait before it, after a value
abbrev pub before_pushes_after : RespPairing → ℕ
before_pushes_after p = cond (reads_push p) p.before_pushes (p.before_pushes - 1)

-- the number of the reply, or 0 for a push
abbrev pub number_of_reply : RespPairing → ℕ
number_of_reply p = cond (reads_push p) 0 (p.answered + 1)

-- the effect of an event as C receives it
abbrev pub nested_by : ℕ → ℕ → ℕ → ℕ
nested_by nested kind form =
    cond (eqb kind open_number) (cond (eqb nested 0) (cond (eqb form (kind_form kinds.Attr)) 0 1) (nested + 1))
    (cond (eqb kind close_number) (nested - 1) nested)

-- whether a text of this kind is an error
abbrev pub is_error_form : ℕ → Bool
is_error_form form = cond (eqb form (text_form texts.Error)) true (eqb form (text_form texts.BulkError))

abbrev pub refuses_by : ℕ → Bool → ℕ → ℕ → Bool
refuses_by nested before kind form = cond (eqb nested 0)
    (cond (eqb kind open_number) (cond (eqb form (kind_form kinds.Attr)) before false)
    (cond (eqb kind text_number) (is_error_form form) (cond (eqb kind whole_number) (is_error_form form)
    (cond (eqb kind null_number) false (cond (eqb kind bool_number) false (cond (eqb kind int_number) false before))))))
    before
