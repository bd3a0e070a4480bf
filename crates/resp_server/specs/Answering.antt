-- The answers of a session, in terms of its state.
use Rattle.std.specs.Prelude.{◌≡◌, ℕ, ◌+◌, ◌<◌, ◌≤◌, ◌^◌, Bool, true, false, List, [], ◌++◌, length, take, IfOk, OnErr, Result}
use Rattle.resp_value.specs.Bounds.{Bounds}
use Rattle.resp_value.specs.Canonical.{canonical_text}
use Rattle.resp_value.specs.Causes.{name_of}
use Rattle.resp_value.specs.Data.{Datum}
use Rattle.resp_value.specs.declared.cause.Cause.TheVariants.{OutOfMemory}
use Rattle.resp_value.specs.declared.version.Version.{Version}
use Rattle.resp_scan.specs.declared.event.Fault.{Fault}
use Rattle.resp_session.specs.Answers.{SessionState, Answers, after_value, server_rules}
use Rattle.resp_session.specs.Fitting.{FitsStore}
use Rattle.resp_session.specs.Replies.{error}
use Rattle.resp_session.specs.Stores.{Store}
use Rattle.resp_server.specs.Reading.{HasReadFront, ReadsBy, WhereFrontRead}
use Rattle.resp_server.specs.ReplyTexts.{fault_text}
use Rattle.resp_server.specs.Running.{IsSessionAsBefore, KeepsWithin}
use Rattle.resp_server.specs.declared.session.Session.{Session}
use Rattle.resp_server.specs.declared.turn.Turn.{Turn}

-- a session over this store that has written this text and run this many commands
abbrev pub state_with : Store → Version → List ℕ → Bool → ℕ → SessionState
state_with store version text closing count =
    record { store = store; version = version; text = text; closing = closing; count = count }

-- the state after a value, whatever was written and run before it
pub record IsAnswerTo (x : Datum) (store store' : Store) (before after : Session) (commands : ℕ) : Type 0 where
  pub reply : List ℕ
  pub replied : after.out.items ≡ before.out.items ++ reply
  pub state : (text : List ℕ) (count : ℕ) → after_value before.id (state_with store before.version text false count) x ≡
      state_with store' after.version (text ++ reply) after.closing (count + commands)

-- this many bytes of the piece were answered, after the front that was read, whatever was written and run before them
pub record AnswersBytes (limits : Bounds) (store store' : Store) (before after : Session) (front piece : List ℕ)
    (used commands : ℕ) : Type 0 where
  pub reply : List ℕ
  pub rest : List ℕ
  pub replied : after.out.items ≡ before.out.items ++ reply
  pub answers : (text : List ℕ) (count : ℕ) → Answers limits before.id (state_with store before.version text false count)
      (front ++ take used piece) (state_with store' after.version (text ++ reply) after.closing (count + commands)) rest
  pub taking : after.closing ≡ false → HasReadFront after.decoder rest
  pub within : used ≤ length piece
  -- an open session uses at least one byte, if there is one
  pub onward : after.closing ≡ false → 0 < length piece → 0 < used

-- an open session over a store within the limits, that has read the first bytes of a value
pub record IsReading (limits : Bounds) (store : Store) (session : Session) : Type 0 where
  pub is_open : session.closing ≡ false
  pub stored : FitsStore limits store
  pub reading : ReadsBy (server_rules limits) session.decoder
  pub taking : (front : List ℕ) × HasReadFront session.decoder front

-- A turn answers bytes of the piece after each front that was read. When out of memory, the store, the version and the
-- waiting bytes are unchanged.
pub record TakesTurn {E : Type 0} (limits limits' : Bounds) (store store' : Store) (before after : Session)
    (piece : List ℕ) (result : Result Turn E) : Type 0 where
  pub answered : WhereFrontRead before.decoder (λ front. IfOk result (λ turn.
      AnswersBytes limits store store' before after front piece turn.used turn.commands))
  pub unchanged : OnErr result (IsSessionAsBefore store store' before after)
  pub within : KeepsWithin limits limits' store' before.out.items after.out.items
  pub same_id : after.id ≡ before.id
  pub reading : ReadsBy (server_rules limits) after.decoder
  pub at_most_one : IfOk result (λ turn. turn.commands ≤ 1)

-- the text was answered: the reply follows the bytes that waited, and an open session has read the rest
pub record IsAnswered (limits : Bounds) (store store' : Store) (before after : Session) (text : List ℕ)
    (commands : ℕ) : Type 0 where
  pub reply : List ℕ
  pub rest : List ℕ
  pub replied : after.out.items ≡ before.out.items ++ reply
  pub answers : Answers limits before.id (state_with store before.version [] false 0) text
      (state_with store' after.version reply after.closing commands) rest
  pub taking : after.closing ≡ false → HasReadFront after.decoder rest

-- the first bytes of a piece, but not all of it
pub record FirstOf (piece : List ℕ) : Type 0 where
  pub bytes : List ℕ
  pub beyond : List ℕ
  pub whole : piece ≡ bytes ++ beyond
  pub some : 0 < length beyond

-- memory was out after the front and the first bytes of the piece, which were answered: nothing after them was done,
-- and the session is closing
pub record IsCutShort (limits : Bounds) (store store' : Store) (before after : Session) (front piece : List ℕ)
    (commands : ℕ) : Type 0 where
  pub first : FirstOf piece
  pub reply : List ℕ
  pub rest : List ℕ
  pub replied : after.out.items ≡ before.out.items ++ reply
  pub answers : Answers limits before.id (state_with store before.version [] false 0) (front ++ first.bytes)
      (state_with store' after.version reply false commands) rest
  pub closes : after.closing ≡ true

-- So many of the bytes of a piece are used. Some are left only if the session is not closing and, afterwards, more than
-- `held` bytes wait. A byte is used if at most `held` bytes waited before.
pub record TakesWithin (held before after : ℕ) (closing : Bool) (size used : ℕ) : Type 0 where
  pub within : used ≤ size
  pub stops : used < size → (closing ≡ false) × (held < after) × (after < 2 ^ 64)
  pub onward : before ≤ held → 0 < size → 0 < used

-- the fault has a short name, and its place is less than 2^63
pub record IsNamedFault (fault : Fault) : Type 0 where
  pub short : length (name_of fault.cause) ≤ 16
  pub near : fault.at < 2 ^ 63

-- the error reply for the fault is queued, and the session is closing
pub record AnswersFault (before after : Session) (fault : Fault) : Type 0 where
  pub caused : fault.cause ≡ OutOfMemory → ⊥
  pub closes : after.closing ≡ true
  pub line : after.out.items ≡ before.out.items ++ canonical_text before.version
      (error (fault_text (name_of fault.cause) fault.at))
