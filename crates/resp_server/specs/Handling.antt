-- The effect of a piece on a hub.
use Rattle.std.specs.Prelude.{◌≡◌, ℕ, Bool, true, false, List, [], ◌++◌, IfSome}
use Rattle.resp_value.specs.declared.version.Version.{Version}
use Rattle.resp_session.specs.Answers.{Answers}
use Rattle.resp_session.specs.Stores.{Store}
use Rattle.resp_server.specs.Answering.{FirstOf, state_with}
use Rattle.resp_server.specs.Hubs.{HubState, Seat, seat_at, seated, stocked}
use Rattle.resp_server.specs.Reading.{HasReadFront, Reading}
use Rattle.resp_server.specs.declared.error.HubError.{HubError}
use Rattle.resp_server.specs.declared.error.HubError.TheVariants.{NoSession, OutOfMemory}

-- if the session with this id is open, this holds of it and of every front of a value that it has read
abbrev pub WhereOpen : HubState → ℕ → (Seat → List ℕ → Type 0) → Type 0
WhereOpen hub id P =
    IfSome (seat_at hub id) (λ s. s.closing ≡ false → (front : List ℕ) → HasReadFront s.decoder front → P s front)

-- the text was answered in this session, and nothing else in the hub is changed
pub record HasAnswered (old new : HubState) (id : ℕ) (s : Seat) (text : List ℕ) (commands : ℕ) : Type 0 where
  pub reply : List ℕ
  pub store : Store
  pub version : Version
  pub closing : Bool
  pub decoder : Reading
  pub rest : List ℕ
  pub answers : Answers old.limits id (state_with old.store s.version [] false 0) text
      (state_with store version reply closing commands) rest
  pub state : new ≡ stocked (seated old id
      (record { version = version; out = s.out ++ reply; closing = closing; decoder = decoder })) store
  -- an open session has read the rest
  pub taking : closing ≡ false → HasReadFront decoder rest

-- the front and the first bytes of the piece were answered but not all of it, the session is closing, and nothing else
-- in the hub is changed
pub record HasCutShort (old new : HubState) (id : ℕ) (s : Seat) (front piece : List ℕ) (commands : ℕ) : Type 0 where
  pub first : FirstOf piece
  pub reply : List ℕ
  pub store : Store
  pub version : Version
  pub decoder : Reading
  pub rest : List ℕ
  pub answers : Answers old.limits id (state_with old.store s.version [] false 0) (front ++ first.bytes)
      (state_with store version reply false commands) rest
  pub state : new ≡ stocked (seated old id
      (record { version = version; out = s.out ++ reply; closing = true; decoder = decoder })) store

-- if the session was out of memory, this holds of the number of commands run before
abbrev pub IfOutOfMemory : HubError → (ℕ → Type 0) → Type 0
IfOutOfMemory NoSession P = Unit {0}
IfOutOfMemory (OutOfMemory commands) P = P commands
