-- The state of a hub: its sessions and the store.
use Rattle.std.specs.Prelude.{◌≡◌, ◌⊎◌, ℕ, ◌==◌, ◌+◌, ◌<◌, ◌≤◌, ◌^◌, Bool, false, List, [], ◌∷◌, ◌++◌, length, Option, None, Some, IfSome, map, cond}
use Rattle.std.specs.List.{AllByRecursion}
use Rattle.std.specs.Map.{lookup}
use Rattle.resp_value.specs.Bounds.{Bounds}
use Rattle.resp_value.specs.Rules.{rules_under}
use Rattle.resp_value.specs.declared.version.Version.{Version}
use Rattle.resp_value.specs.declared.version.Version.TheVariants.{Two}
use Rattle.resp_session.specs.Fitting.{FitsStore}
use Rattle.resp_session.specs.Stores.{Store}
use Rattle.resp_server.specs.Reading.{HasReadFront, HoldsNoIdleDecoder, Reading, ReadsBy}
use Rattle.resp_server.specs.declared.session.Session.{Session}

-- a session: the version of its replies, the bytes that wait to be written, whether it is closing, and its reader
pub record Seat : Type 0 where
  pub version : Version
  pub out : List ℕ
  pub closing : Bool
  pub decoder : Reading

-- sessions with their ids, in the order in which they were opened, and the store
pub record HubState : Type 0 where
  pub limits : Bounds
  pub sessions : List (ℕ × Seat)
  pub store : Store
  -- the last id that was given
  pub last : ℕ

abbrev pub seat_of : Session → Seat
seat_of s = record { version = s.version; out = s.out.items; closing = s.closing; decoder = s.decoder }

abbrev pub seats_of : List (ℕ × Session) → List (ℕ × Seat)
seats_of entries = map (λ (e : ℕ × Session). (e.0, seat_of e.1)) entries

-- the session of this id
abbrev pub seat_at : HubState → ℕ → Option Seat
seat_at hub id = lookup (λ other. id == other) hub.sessions

-- at most this many bytes wait to be written to the session's client
abbrev pub WaitsAtMost : ℕ → HubState → ℕ → Type 0
WaitsAtMost most hub id = IfSome (seat_at hub id) (λ s. length s.out ≤ most)

abbrev pub with_seat : List (ℕ × Seat) → ℕ → Seat → List (ℕ × Seat)
with_seat [] id seat = []
with_seat (e ∷ es) id seat = cond (id == e.0) ((e.0, seat) ∷ es) (e ∷ with_seat es id seat)

-- the hub with this session instead of the session with this id
abbrev pub seated : HubState → ℕ → Seat → HubState
seated hub id seat = record hub { sessions = with_seat hub.sessions id seat }

-- the hub with this store
abbrev pub stocked : HubState → Store → HubState
stocked hub store = record hub { store = store }

-- the sessions without the one of this id
abbrev pub without_seat : List (ℕ × Seat) → ℕ → List (ℕ × Seat)
without_seat [] id = []
without_seat (e ∷ es) id = cond (id == e.0) es (e ∷ without_seat es id)

-- A session has the number under which the hub keeps it. It reads version 2 within the hub's limits, and while it is
-- open it has read a front of a value. It has a decoder only inside a value.
pub record SessionIsSound (limits : Bounds) (last id : ℕ) (s : Session) : Type 0 where
  pub same_id : s.id ≡ id
  pub given : id ≤ last
  pub reading : ReadsBy (rules_under Two limits) s.decoder
  pub taking : s.closing ≡ false → (front : List ℕ) × HasReadFront s.decoder front
  pub idle : HoldsNoIdleDecoder s.closing s.decoder

abbrev pub AreSound : Bounds → ℕ → List (ℕ × Session) → Type 0
AreSound limits last sessions =
    AllByRecursion (λ (e : ℕ × Session). SessionIsSound limits last e.0 e.1) sessions

-- this holds of every hub
pub record HubIsSound (limits : Bounds) (sessions : List (ℕ × Session)) (store : Store) (last : ℕ) : Type 0 where
  -- each value in the store is within the limits, and so is each reply
  pub stored : FitsStore limits store
  pub few : last < 2 ^ 63
  pub sound : AreSound limits last sessions

-- a session is opened after the others with the next id, which no other session has: it has read nothing, and nothing
-- waits
pub record IsOpened (old new : HubState) (id : ℕ) : Type 0 where
  pub next : id ≡ old.last + 1
  pub decoder : Reading
  pub nothing_taken : HasReadFront decoder []
  pub fresh : seat_at old id ≡ None
  pub there : seat_at new id ≡ Some (record { version = Two; out = []; closing = false; decoder = decoder })
  pub state : new ≡ record old {
    sessions = old.sessions ++ (id, record { version = Two; out = []; closing = false; decoder = decoder }) ∷ [];
    last = id;
  }

-- as many sessions are open as possible, or all ids have been used
abbrev pub HasNoSessionLeft : HubState → Type 0
HasNoSessionLeft hub = (65536 ≤ length hub.sessions) ⊎ (9223372036854775807 ≤ hub.last)
