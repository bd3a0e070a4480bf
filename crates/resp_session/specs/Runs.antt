-- Outcomes of events: why an event is refused, and the state after a list of events.
use Rattle.std.specs.Prelude.{◌≡◌, ℕ, Bool, true, false, List, [], ◌∷◌, length, Option, None, Some}
use Rattle.resp_value.specs.Data.{Datum}
use Rattle.resp_value.specs.Bounds.{Bounds}
use Rattle.resp_value.specs.Canonical.{HasPushAtTop, AllowsDoubles, IsFirstOver}
use Rattle.resp_value.specs.Rules.{rules_under}
use Rattle.resp_value.specs.declared.version.Version.{Version}
use Rattle.resp_value.specs.declared.version.Version.TheVariants.{Two, Three}
use Rattle.resp_value.specs.declared.cause.Cause.{Cause}
use Rattle.resp_value.specs.declared.cause.Cause.TheVariants.{Double, NotInVersion, PushBelowTop, OverLimits}
use Rattle.resp_session.specs.Requests.{Hello, Command, RefusesRequest}
use Rattle.resp_session.specs.Connections.{Connection, push_message}
use Rattle.resp_session.specs.Worlds.{World, WorldEvent, Send, Greet, Push, client_of, connection_at, version_of, after_event}

pub data Outcome : Type 0 where
  -- it happened
  Done : Outcome
  -- it was refused, and nothing changed
  Refused : Cause → Outcome
  -- its client was dropped, or no client has this number, and nothing changed
  Gone : Outcome

-- whether the connection was dropped, or does not exist
abbrev pub is_gone : Option Connection → Bool
is_gone None = true
is_gone (Some c) = c.dropped

-- the number of requests queued on a connection
abbrev pub request_count : Option Connection → ℕ
request_count None = 0
request_count (Some c) = length c.requests

-- why a session of this version refuses a push: the first of these causes that applies
abbrev pub RefusesPush : Bounds → Version → Datum → Cause → Type 0
RefusesPush limits version push NotInVersion = version ≡ Two
RefusesPush limits version push Double = (version ≡ Three) × (AllowsDoubles limits push → ⊥)
RefusesPush limits version push PushBelowTop =
    (version ≡ Three) × AllowsDoubles limits push × (HasPushAtTop push → ⊥)
RefusesPush limits version push (OverLimits limit) =
    (version ≡ Three) × AllowsDoubles limits push × HasPushAtTop push ×
    IsFirstOver (rules_under Three limits) push limit
RefusesPush limits version push _ = ⊥

-- why an event on this connection is refused; arriving bytes and drops are never refused
abbrev pub RefusesEvent : Bounds → Option Connection → WorldEvent → Cause → Type 0
RefusesEvent limits c (Send i words) cause = RefusesRequest limits (request_count c) (Command words) cause
RefusesEvent limits c (Greet i asked) cause = RefusesRequest limits (request_count c) (Hello asked) cause
RefusesEvent limits c (Push i items) cause = RefusesPush limits (version_of c) (push_message items).value cause
RefusesEvent limits c _ cause = ⊥

-- the connection of an event
abbrev pub connection_of : World → WorldEvent → Option Connection
connection_of w event = connection_at w.connections (client_of event)

-- the outcome of an event, and the state after it
abbrev pub Step : Bounds → World → WorldEvent → Outcome → World → Type 0
Step limits w event Gone next = (is_gone (connection_of w event) ≡ true) × (next ≡ w)
Step limits w event (Refused cause) next =
    (is_gone (connection_of w event) ≡ false) × RefusesEvent limits (connection_of w event) event cause × (next ≡ w)
Step limits w event Done next =
    (is_gone (connection_of w event) ≡ false) ×
    ((cause : Cause) → RefusesEvent limits (connection_of w event) event cause → ⊥) × (next ≡ after_event w event)

-- the state after events, one after another
abbrev pub Run : Bounds → World → List WorldEvent → World → Type 0
Run limits w [] last = last ≡ w
Run limits w (event ∷ events) last =
    (outcome : Outcome) × (next : World) × Step limits w event outcome next × Run limits next events last
