-- The state that a world shows, and how its clients and sessions relate to the world of the definitions.
use Rattle.std.specs.Prelude.{◌≡◌, ◌⊎◌, ℕ, suc, ◌<◌, ◌-◌, ◌^◌, ◌≢◌, IfSome, Bool, true, false, List, ◌++◌, length, map, take, drop, Option, None, Some, set}
use Rattle.std.specs.List.{AllByRecursion, slice_get}
use Rattle.resp_value.specs.Bounds.{Bounds, AreBounds}
use Rattle.resp_value.specs.Commands.{words_of}
use Rattle.resp_value.specs.Data.{Datum}
use Rattle.resp_io.specs.Devices.{HasRisen, count_after}
use Rattle.resp_value.specs.Values.{datum_of, list_of}
use Rattle.resp_value.specs.declared.cause.Cause.{Cause}
use Rattle.resp_value.specs.declared.cause.Cause.TheVariants.{OutOfMemory}
use Rattle.resp_value.specs.declared.value.Members.{Members}
use Rattle.resp_value.specs.declared.value.Value.{Value}
use Rattle.resp_value.specs.declared.value.Value.TheVariants as value
use Rattle.resp_value.specs.declared.version.Version.TheVariants.{Two}
use Rattle.resp_session.specs.Connections.{Connection, back_text, sent_text, shown_messages, shown_pushes, shown_replies, values_of}
use Rattle.resp_session.specs.Reading.{ReadsAs}
use Rattle.resp_session.specs.Runs as runs
use Rattle.resp_session.specs.Runs.{Run}
use Rattle.resp_session.specs.Serving.{IsUnfinished, clients_in}
use Rattle.resp_session.specs.WorldLaws.{IsPossible, waiting_for}
use Rattle.resp_session.specs.Worlds as session_worlds
use Rattle.resp_session.specs.Worlds.{World, WorldEvent, connection_at, new_world}
use Rattle.resp_client.specs.Clients.{queued, state_of}
use Rattle.resp_client.specs.Hearing.{HasTaken}
use Rattle.resp_server.specs.Hubs.{HubState, Seat, seat_at}
use Rattle.resp_server.specs.Reading as server
use Rattle.resp_wire.specs.Links.{Carries, Traffic, is_of_link}
use Rattle.resp_wire.specs.Requests.{request_of}
use Rattle.resp_wire.specs.declared.link.Direction.{Direction}
use Rattle.resp_wire.specs.declared.link.Direction.TheVariants.{ToServer, ToClient}
use Rattle.resp_wire.specs.declared.end.End.{End}
use Rattle.resp_wire.specs.declared.event.Event.{Event}
use Rattle.resp_wire.specs.declared.event.Event.TheVariants as event
use Rattle.resp_wire.specs.declared.event.Outcome.{Outcome}
use Rattle.resp_wire.specs.declared.event.Outcome.TheVariants as outcome

-- an event, as in the definitions
abbrev pub event_of : Event → WorldEvent
event_of (event.Send i command) = session_worlds.Send i (words_of command)
event_of (event.Hello i asked) = session_worlds.Greet i asked
event_of (event.ToServer i count) = session_worlds.ToServer i count
event_of (event.ToClient i count) = session_worlds.ToClient i count
event_of (event.Push i items) = session_worlds.Push i (map datum_of (list_of items))
event_of (event.Drop i) = session_worlds.Drop i

-- the outcome of an event, as in the definitions
abbrev pub outcome_of : Outcome → runs.Outcome
outcome_of outcome.Done = runs.Done
outcome_of (outcome.Refused cause) = runs.Refused cause
outcome_of outcome.Gone = runs.Gone

-- values, as in the definitions
abbrev pub values_in : List Value → List Datum
values_in values = map datum_of values

-- pushes of these members, as in the definitions
abbrev pub pushes_with : List Members → List Datum
pushes_with pushes = map (λ (items : Members). datum_of (value.Push items)) pushes

-- A client that was not dropped and its session are in the state of the connection: the bytes that wait in both
-- directions, and the bytes that each has read.
pub record Stands (limits : Bounds) (seat : Option Seat) (e : End) (c : Connection) : Type 0 where
  pub session : Seat
  pub there : seat ≡ Some session
  pub version : session.version ≡ c.version
  pub is_open : session.closing ≡ false
  pub answers : session.out ≡ drop c.shown (back_text c)
  pub front : List ℕ
  pub taking : server.HasReadFront session.decoder front
  pub unfinished : IsUnfinished limits c front
  pub same_limits : (state_of e.client).limits ≡ limits
  pub asks : (state_of e.client).out ≡ drop c.arrived (sent_text c)
  pub same_count : queued (state_of e.client) ≡ length c.requests
  pub text : List ℕ
  pub rest : List ℕ
  pub reads : ReadsAs limits (waiting_for Two c.requests) (values_of (shown_messages c)) text
      (state_of e.client).waiting
  pub whole : take c.shown (back_text c) ≡ text ++ rest
  pub reading : HasTaken e.client rest

-- a client shows the state of the connection, and a client that was dropped has no session
pub record ShowsClient (limits : Bounds) (seat : Option Seat) (e : End) (c : Connection) : Type 0 where
  pub asked : map request_of e.asked.items ≡ c.requests
  pub replies : values_in e.replies.items ≡ shown_replies c
  pub pushes : pushes_with e.pushes.items ≡ shown_pushes c
  pub dropped : e.is_dropped ≡ c.dropped
  pub gone : c.dropped ≡ true → seat ≡ None
  pub stands : c.dropped ≡ false → Stands limits seat e c

-- Clients, sessions and their store are in the state after the events.
pub record ShowsEach (limits : Bounds) (hub : HubState) (ends : List End) (order : List ℕ) (w : World) : Type 0 where
  pub n : ℕ
  pub events : List WorldEvent
  pub run : Run limits (new_world n) events w
  pub possible : AllByRecursion IsPossible events
  pub few : n < 2 ^ 63
  pub bounds : AreBounds limits
  pub same_limits : hub.limits ≡ limits
  pub store : hub.store ≡ w.store
  pub ordered : order ≡ clients_in w
  pub as_many : length ends ≡ length w.connections
  pub each : (k : ℕ) (e : End) (c : Connection) → slice_get ends k ≡ Some e →
      connection_at w.connections (suc k) ≡ Some c → ShowsClient limits (seat_at hub (suc k)) e c

-- The state of a world: its hub, its clients with a link for each, the order, and why it stopped.
pub record WorldState (L : Type 0) : Type 0 where
  pub hub : HubState
  pub ends : List End
  pub links : List L
  pub order : List ℕ
  pub stopped : Option Cause

-- The world shows a world of the definitions, over honest links. The definition is opaque to callers: `new` and `over`
-- establish it, and each event keeps it until a stop.
pub record Shows {L : Type 0} (is_honest : L → Type 0) (s : WorldState L) (limits : Bounds) (w : World) : Type 0 where
  pub each : ShowsEach limits s.hub s.ends s.order w
  pub honest : AllByRecursion is_honest s.links

-- one of these counts has risen
abbrev pub HasFailedIn : List ℕ → List ℕ → Type 0
HasFailedIn old new = (k : ℕ) × (before : ℕ) × (after : ℕ) × (slice_get old k ≡ Some before) ×
    (slice_get new k ≡ Some after) × HasRisen before after

-- no link has failed
abbrev pub KeepFailures : {L : Type 0} → (L → ℕ) → List L → List L → Type 0
KeepFailures {L} failures old new = map failures new ≡ map failures old

-- this client's link failed once, or no link failed
abbrev pub CountsFailures : {L : Type 0} → (L → ℕ) → ℕ → List L → List L → Bool → Type 0
CountsFailures {L} failures client old new true = (at : ℕ) × (suc at ≡ client) × (before : ℕ) ×
    (slice_get (map failures old) at ≡ Some before) ×
    (map failures new ≡ set (map failures old) at (count_after 1 before))
CountsFailures {L} failures client old new false = KeepFailures failures old new

-- every link but this client's is unchanged
abbrev pub OthersStay : {L : Type 0} → ℕ → List L → List L → Type 0
OthersStay {L} client old new = (k : ℕ) → suc k ≢ client → slice_get new k ≡ slice_get old k

-- the link of this index has carried these bytes in this direction, and the others are unchanged
pub record LinkCarries {L : Type 0} (traffic : L → Option Traffic) (at : ℕ) (way : Direction) (bytes : List ℕ)
    (old new : List L) : Type 0 where
  pub before : L
  pub after : L
  pub there : slice_get old at ≡ Some before
  pub others_stay : new ≡ set old at after
  pub carries : Carries way bytes (traffic before) (traffic after)

-- The bytes of an event go over the link of its client, and in its direction: the first that wait in the client or in
-- its session. Otherwise the links are unchanged.
abbrev pub LinksAfter : {L : Type 0} → (L → Option Traffic) → WorldState L → WorldState L → WorldEvent → Outcome → Type 0
LinksAfter {L} traffic old new (session_worlds.ToServer i count) outcome.Done =
    IfSome (slice_get old.ends (i - 1)) (λ e.
    LinkCarries traffic (i - 1) ToServer (take count (state_of e.client).out) old.links new.links)
LinksAfter {L} traffic old new (session_worlds.ToClient i count) outcome.Done =
    IfSome (seat_at old.hub i) (λ s. LinkCarries traffic (i - 1) ToClient (take count s.out) old.links new.links)
LinksAfter {L} traffic old new _ _ = new.links ≡ old.links

-- why a world stops: it is out of memory, or a link failed with a cause of links
abbrev pub StopsBy : {L : Type 0} → (L → ℕ) → List L → List L → Cause → Type 0
StopsBy {L} failures old new cause =
    (cause ≡ OutOfMemory) ⊎ HasFailedIn (map failures old) (map failures new) × (is_of_link cause ≡ true)
