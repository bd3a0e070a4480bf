-- The results of a server's end, in terms of its hub and of the bytes written.
use Rattle.std.specs.Prelude.{◌≡◌, ◌⊎◌, ℕ, ◌+◌, ◌<◌, true, false, List, [], ◌++◌, length, take, Option, Some, None, Result, Ok, Err, IfSome, IfErr, OnOk}
use Rattle.std.specs.List.{concat}
use Rattle.resp_io.specs.Devices.{Appends, HasRisen}
use Rattle.resp_server.specs.Handling.{HasAnswered, HasCutShort, WhereOpen}
use Rattle.resp_server.specs.Hubs.{HubState, Seat, WaitsAtMost, seat_at}
use Rattle.resp_server.specs.Reading.{HasReadFront}
use Rattle.resp_server.specs.Sending.{HasSent, HasSentPart, IsClosing}
use Rattle.resp_io.specs.Pieces.{ReadsPieces}
use Rattle.resp_io.specs.Turns.{TellsEnd}
use Rattle.resp_wire.specs.Visits.{MayLeave, ends_by_read}
use Rattle.resp_wire.specs.declared.error.ServeError.{ServeError}
use Rattle.resp_wire.specs.declared.error.ServeError.TheVariants.{NoSession, OutOfMemory, Read, Write, TooManyTurns}
use Rattle.resp_wire.specs.declared.serve.Served.{Served}
use Rattle.resp_wire.specs.declared.serve.Served.TheVariants.{Ended, Closed}

-- the session is open, and has read a front of a value
pub record IsOpen (hub : HubState) (id : ℕ) : Type 0 where
  pub seat : Seat
  pub here : seat_at hub id ≡ Some seat
  pub not_closing : seat.closing ≡ false
  pub front : List ℕ
  pub taken : HasReadFront seat.decoder front

-- After a text: the state of a hub that received it whole, and whose replies were then written except for this rest.
pub record Serves (old new : HubState) (id : ℕ) (s : Seat) (text : List ℕ) (held held' : Option (List ℕ))
    (waits : List ℕ) : Type 0 where
  pub given : HubState
  pub commands : ℕ
  pub answered : HasAnswered old given id s text commands
  pub sent : HasSent given new id held held' waits

-- The state when serving stopped. When out of memory, the first bytes received are answered. After a failed write some
-- of the answers are left. After a failed read no answer is left, and the session continues. If no turn is left, a
-- write or a read needed one.
abbrev pub StopsServing : HubState → HubState → ℕ → Seat → List ℕ → List ℕ → Option (List ℕ) → Option (List ℕ) →
    ServeError → Type 0
StopsServing old new id s front came held held' NoSession = ⊥
StopsServing old new id s front came held held' OutOfMemory =
    (waits : List ℕ) × (given : HubState) × (commands : ℕ) × HasCutShort old given id s front came commands ×
    HasSent given new id held held' waits
StopsServing old new id s front came held held' Read =
    Serves old new id s (front ++ came) held held' [] × IsClosing new id false
StopsServing old new id s front came held held' Write =
    (waits : List ℕ) × (0 < length waits) × Serves old new id s (front ++ came) held held' waits
StopsServing old new id s front came held held' TooManyTurns =
    (waits : List ℕ) × ((0 < length waits) ⊎ IsClosing new id false) ×
    Serves old new id s (front ++ came) held held' waits

-- By then all answers to a text were written, and the session continued.
pub record HadAnswered (old : HubState) (id : ℕ) (s : Seat) (text : List ℕ) (held held' : Option (List ℕ)) :
    Type 0 where
  pub between : HubState
  pub held_before : Option (List ℕ)
  pub answered : Serves old between id s text held held_before []
  pub went_on : IsClosing between id false
  pub later : List ℕ
  pub appended : Appends held_before held' later

-- Each piece was read only after all answers to the bytes received before it were written.
abbrev pub AnswersBefore : HubState → ℕ → Seat → List ℕ → List (List ℕ) → Option (List ℕ) → Option (List ℕ) → Type 0
AnswersBefore old id s front pieces held held' = (k : ℕ) → k < length pieces →
    HadAnswered old id s (front ++ concat (take k pieces)) held held'

-- each end says: no input is left while the session continues, or the session is closing
abbrev pub EndsBy : HubState → ℕ → Option (List ℕ) → Option (List ℕ) → Served → Type 0
EndsBy hub id left left' Ended = TellsEnd left left' × IsClosing hub id false
EndsBy hub id left left' Closed = IsClosing hub id true

-- the bytes that waited in a closing session were written, or the first of them
abbrev pub ServesClosing : HubState → HubState → ℕ → Option (List ℕ) → Option (List ℕ) → Result Served ServeError →
    Type 0
ServesClosing old new id held held' (Ok Closed) = HasSent old new id held held' []
ServesClosing old new id held held' (Err Write) = HasSentPart old new id held held'
ServesClosing old new id held held' (Err TooManyTurns) = HasSentPart old new id held held'
ServesClosing old new id held held' _ = ⊥

-- each error says: there is no session, or the device's count of failures has risen
abbrev pub FailsServing : HubState → ℕ → ℕ → ℕ → ℕ → ℕ → ServeError → Type 0
FailsServing hub id writes writes' reads reads' NoSession = seat_at hub id ≡ None
FailsServing hub id writes writes' reads reads' Read = HasRisen reads reads'
FailsServing hub id writes writes' reads reads' Write = HasRisen writes writes'
FailsServing hub id writes writes' reads reads' _ = Unit {0}

-- The bytes received are pieces of at most `most` bytes, each from one read, and the session was given all of them but
-- the rest. Before each read, all replies to the bytes received before were written. The bytes written and the bytes
-- that still wait, joined, are the bytes that waited before and the response to the bytes read before of a value
-- together with the bytes given. The hub is in the state after that response.
abbrev pub ServesPieces : {W R : Type 0} → ℕ → (W → Option (List ℕ)) → (R → Option (List ℕ)) → (R → ℕ) → (R → ℕ) →
    W → W → R → R → HubState → HubState → ℕ → Result Served ServeError → List ℕ → Type 0
ServesPieces most written remaining calls failures writer writer' reader reader' old new id result rest =
    (pieces : List (List ℕ)) × (given : List ℕ) × (concat pieces ≡ given ++ rest) × MayLeave result rest ×
    ReadsPieces most remaining calls failures reader reader' pieces (ends_by_read result) ×
    WhereOpen old id (λ s front.
    OnOk result (Serves old new id s (front ++ given) (written writer) (written writer') []) ×
    IfErr result (StopsServing old new id s front given (written writer) (written writer')) ×
    AnswersBefore old id s front pieces (written writer) (written writer'))

-- The session answered a text, and then more than `most` bytes waited, at most one reply more. A write stopped that left
-- some of them.
pub record Overfills (most : ℕ) (old new : HubState) (id : ℕ) (text : List ℕ) (held held' : Option (List ℕ)) : Type 0 where
  pub given : HubState
  pub commands : ℕ
  pub answered : WhereOpen old id (λ s front. HasAnswered old given id s (front ++ text) commands)
  pub many : IfSome (seat_at given id) (λ s. most < length s.out)
  pub bounded : WaitsAtMost (most + old.limits.total) given id
  pub sent : HasSentPart given new id held held'

-- All replies to the bytes before were written, and then more than `most` bytes waited, at most one reply more. A write
-- stopped that left some of them.
pub record StopsOverfull (most : ℕ) (old new : HubState) (id : ℕ) (s : Seat) (front : List ℕ) (held held' : Option (List ℕ)) :
    Type 0 where
  pub before : List ℕ
  pub last : List ℕ
  pub between : HubState
  pub held_between : Option (List ℕ)
  pub served : Serves old between id s (front ++ before) held held_between []
  pub overfills : Overfills most between new id last held_between held'

-- if bytes of a piece are left, more than `most` bytes waited
abbrev pub LeavesOverfull : {W : Type 0} → ℕ → (W → Option (List ℕ)) → W → W → HubState → HubState → ℕ → List ℕ → Type 0
LeavesOverfull most written writer writer' old new id rest = (rest ≡ [] → ⊥) →
    WhereOpen old id (λ s front. StopsOverfull most old new id s front (written writer) (written writer'))
