-- The effect of events on a world.
use Rattle.std.specs.Prelude.{◌≡◌, ◌≢◌, ℕ, suc, ◌<◌, ◌≤◌, ◌-◌, false, List, [], length, take, Option, None, Some, IfErr, IfOk, IfSome, Result}
use Rattle.std.specs.List.{slice_get}
use Rattle.resp_value.specs.Bounds.{Bounds}
use Rattle.resp_value.specs.declared.cause.Cause.{Cause}
use Rattle.resp_value.specs.declared.cause.Cause.TheVariants.{OutOfMemory}
use Rattle.resp_value.specs.declared.version.Version.TheVariants.{Two}
use Rattle.resp_session.specs.Runs as runs
use Rattle.resp_session.specs.Runs.{Run, Step}
use Rattle.resp_session.specs.Worlds.{World, WorldEvent, Drop, after_event, client_of}
use Rattle.resp_server.specs.Hubs.{HubState, seat_at}
use Rattle.resp_server.specs.Reading.{HasReadFront, Reading}
use Rattle.resp_wire.specs.Ends.{IsNew}
use Rattle.resp_io.specs.Turns.{stopped_by}
use Rattle.resp_wire.specs.Links.{Traffic, is_of_link}
use Rattle.resp_wire.specs.Worlds.{CountsFailures, LinksAfter, OthersStay, Shows, StopsBy, WorldState, outcome_of}
use Rattle.resp_wire.specs.declared.end.End.{End}
use Rattle.resp_wire.specs.declared.event.Outcome.{Outcome}
use Rattle.resp_wire.specs.declared.event.Stop.{Stop}

-- the client of this index was not dropped
abbrev pub IsOpenEnd : List End → ℕ → Type 0
IsOpenEnd ends index = IfSome (slice_get ends index) (λ e. e.is_dropped ≡ false)

-- the client of this number is there and was not dropped
pub record IsOpenClient (ends : List End) (number : ℕ) : Type 0 where
  pub there : (1 ≤ number) × (number ≤ length ends)
  pub is_open : IsOpenEnd ends (number - 1)

-- The event has its outcome in the definitions, and the world shows the state after it.
abbrev pub Happens : {L : Type 0} → (L → Type 0) → WorldState L → WorldState L → WorldEvent → Outcome → Type 0
Happens {L} is_honest old new event outcome = (limits : Bounds) (w : World) → Shows is_honest old limits w →
    (next : World) × Step limits w event (outcome_of outcome) next × Shows is_honest new limits next

-- Over honest links the event stopped when out of memory, or because a link failed.
abbrev pub Fails : {L : Type 0} → (L → Type 0) → (L → ℕ) → WorldState L → WorldState L → Cause → Type 0
Fails {L} is_honest failures old new cause = (limits : Bounds) (w : World) → Shows is_honest old limits w →
    StopsBy failures old.links new.links cause

-- Memory may be out at this event: it is not a drop, which needs no memory, and in the definitions it is done, neither
-- refused nor for a client that does not exist.
pub record MayLackMemory {L : Type 0} (is_honest : L → Type 0) (s : WorldState L) (event : WorldEvent) : Type 0 where
  pub no_drop : (i : ℕ) → event ≢ Drop i
  pub done : (limits : Bounds) (w : World) → Shows is_honest s limits w →
      Step limits w event runs.Done (after_event w event)

-- An event has this outcome, or this cause stopped it. If the cause is a link's, the link of the event's client has
-- failed, once, and no other link. The bytes go over the link of that client.
pub record Performs {L : Type 0} (is_honest : L → Type 0) (failures : L → ℕ) (carried : L → Option Traffic)
    (old new : WorldState L) (event : WorldEvent) (result : Result Outcome Cause) : Type 0 where
  pub happens : IfOk result (Happens is_honest old new event)
  pub stops : IfErr result (Fails is_honest failures old new)
  pub memory : IfErr result (λ cause. cause ≡ OutOfMemory → MayLackMemory is_honest old event)
  pub going : new.stopped ≡ old.stopped
  pub links : CountsFailures failures (client_of event) old.links new.links (stopped_by is_of_link result)
  pub traffic : IfOk result (LinksAfter carried old new event)
  pub others : OthersStay (client_of event) old.links new.links
  pub as_many : length new.ends ≡ length old.ends

-- The events have their outcomes in the definitions, and the world shows the state after them.
abbrev pub RunsTo : {L : Type 0} → (L → Type 0) → WorldState L → WorldState L → List WorldEvent → Type 0
RunsTo {L} is_honest old new events = (limits : Bounds) (w : World) → Shows is_honest old limits w →
    (next : World) × Run limits w events next × Shows is_honest new limits next

-- The events before this one have their outcomes in the definitions, and this event stopped: at once if the world had
-- stopped before, otherwise because memory was out at an event that may need it, or because a link failed in this run.
pub record StopsAt {L : Type 0} (is_honest : L → Type 0) (failures : L → ℕ) (old new : WorldState L)
    (events : List WorldEvent) (stop : Stop) : Type 0 where
  pub within : stop.event < length events
  pub between : WorldState L
  pub before : RunsTo is_honest old between (take stop.event events)
  pub stopped : IfSome old.stopped (λ cause. (stop.event ≡ 0) × (stop.cause ≡ cause))
  pub reason : old.stopped ≡ None → Fails is_honest failures old new stop.cause
  pub links : old.stopped ≡ None → IfSome (slice_get events stop.event) (λ event.
      CountsFailures failures (client_of event) old.links new.links (is_of_link stop.cause))
  pub memory : old.stopped ≡ None → stop.cause ≡ OutOfMemory →
      IfSome (slice_get events stop.event) (MayLackMemory is_honest between)

-- this many sessions were opened, each with a client that has sent nothing
pub record AreOpened (limits : Bounds) (old new : HubState) (ends : List End) (count : ℕ) : Type 0 where
  pub same_limits : new.limits ≡ old.limits
  pub same_store : new.store ≡ old.store
  pub last : new.last ≡ count
  pub few : length new.sessions ≡ count
  pub as_many : length ends ≡ count
  pub none_else : (id : ℕ) → count < id → seat_at new id ≡ None
  pub each_end : (k : ℕ) (e : End) → slice_get ends k ≡ Some e → IsNew limits e
  pub each_seat : (k : ℕ) → k < count → (decoder : Reading) × HasReadFront decoder [] ×
      (seat_at new (suc k) ≡ Some (record { version = Two; out = []; closing = false; decoder = decoder }))
