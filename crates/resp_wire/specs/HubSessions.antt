-- What a hub says of a session.
use Rattle.std.specs.Prelude.{◌≡◌, ℕ, ◌+◌, Bool, false, List, [], ◌++◌, Some, is_some, unwrap_or}
use Rattle.std.specs.Option.{option_map}
use Rattle.resp_server.specs.Handling.{HasAnswered, WhereOpen}
use Rattle.resp_server.specs.Hubs.{HubState, Seat, WaitsAtMost, seat_at}
use Rattle.resp_server.specs.Reading.{HasReadFront}
use Rattle.resp_server.specs.Sending.{HasSent}
use Rattle.resp_wire.specs.Serving.{Serves, StopsServing}
use Rattle.resp_wire.specs.declared.error.ServeError.TheVariants.{OutOfMemory}

abbrev pub has_session : HubState → ℕ → Bool
has_session hub id = is_some (seat_at hub id)

-- whether the session is closing
abbrev pub is_closing_at : HubState → ℕ → Bool
is_closing_at hub id = unwrap_or (option_map (λ (s : Seat). s.closing) (seat_at hub id)) false

-- the bytes that wait to be written to the session's client
abbrev pub waiting_at : HubState → ℕ → List ℕ
waiting_at hub id = unwrap_or (option_map (λ (s : Seat). s.out) (seat_at hub id)) []

-- the hub has the session, and if it is open it has read a front of a value
pub record IsKnown (hub : HubState) (id : ℕ) : Type 0 where
  pub seat : Seat
  pub here : seat_at hub id ≡ Some seat
  pub taking : seat.closing ≡ false → (front : List ℕ) × HasReadFront seat.decoder front

-- these bytes were given to the session, all of them were answered, and this text was written
pub record ServesSession (held : ℕ) (old : HubState) (id : ℕ) (new : HubState) (id' : ℕ) (bytes text : List ℕ) : Type 0 where
  pub same_id : id' ≡ id
  pub same_limits : new.limits ≡ old.limits
  pub bounded : WaitsAtMost (held + old.limits.total) old id → WaitsAtMost (held + old.limits.total) new id
  pub there : has_session new id ≡ has_session old id
  pub served : WhereOpen old id (λ s front.
      (waits : List ℕ) × Serves old new id s (front ++ bytes) (Some []) (Some text) waits)

-- these bytes were given to the session, the first of them were answered since memory ran out, and this text was written
pub record CutsSession (held : ℕ) (old : HubState) (id : ℕ) (new : HubState) (id' : ℕ) (bytes text : List ℕ) : Type 0 where
  pub same_id : id' ≡ id
  pub same_limits : new.limits ≡ old.limits
  pub bounded : WaitsAtMost (held + old.limits.total) old id → WaitsAtMost (held + old.limits.total) new id
  pub stopped : WhereOpen old id (λ s front. StopsServing old new id s front bytes (Some []) (Some text) OutOfMemory)

-- these bytes were given to the session, and were answered
pub record TakesBytes (held : ℕ) (old : HubState) (id : ℕ) (new : HubState) (id' : ℕ) (bytes : List ℕ) : Type 0 where
  pub same_id : id' ≡ id
  pub commands : ℕ
  pub answered : WhereOpen old id (λ s front. HasAnswered old new id s (front ++ bytes) commands)
  pub bounded : WaitsAtMost (held + old.limits.total) old id → WaitsAtMost (held + old.limits.total) new id

-- this text, the first of the bytes that waited in the session, was written
pub record WritesSession (old : HubState) (id : ℕ) (new : HubState) (id' : ℕ) (text : List ℕ) : Type 0 where
  pub same_id : id' ≡ id
  pub waits : List ℕ
  pub sent : HasSent old new id (Some []) (Some text) waits
