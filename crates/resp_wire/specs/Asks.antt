-- How far a call of `ask` came when it stopped, and the replies and pushes of the bytes received.
use Rattle.std.specs.Prelude.{◌≡◌, ◌⊎◌, ℕ, ◌++◌, Bool, List, Option}
use Rattle.std.specs.List.{concat}
use Rattle.resp_client.specs.Clients.{ClientState, state_of}
use Rattle.resp_client.specs.Hearing.{KeepsReading, WhereTaken}
use Rattle.resp_client.specs.declared.client.Client.{Client}
use Rattle.resp_wire.specs.Asking.{SendsAll, SendsPart, sent}
use Rattle.resp_wire.specs.Hearing.{WaitsBefore}
use Rattle.resp_io.specs.Pieces.{ReadsPieces}
use Rattle.resp_wire.specs.Stops.{FailsReading, FailsWriting, StopsListening, StopsQueueing, is_of_last_read}
use Rattle.resp_wire.specs.declared.asked.Responses.{Responses}
use Rattle.resp_wire.specs.declared.asked.Request.{Request}
use Rattle.resp_wire.specs.declared.error.AskError.{AskError}

-- The bytes received are these pieces of at most `most` bytes, each from one read that was made while a request waited,
-- with these replies and pushes.
pub record HearsPieces {R : Type 0} (most : ℕ) (remaining : R → Option (List ℕ)) (calls failures : R → ℕ) (reader reader' : R)
    (is_over : Bool) (old : Client) (s : ClientState) (before : Responses) (IsHeard : List ℕ → Type 0) : Type 0 where
  pub pieces : List (List ℕ)
  pub read : ReadsPieces most remaining calls failures reader reader' pieces is_over
  pub heard : WhereTaken old (λ front. IsHeard (front ++ concat pieces))
  pub waits : WhereTaken old (λ front. WaitsBefore s before front pieces)

-- A request is refused before anything is written.
pub record StopsBeforeWriting {W R : Type 0} (old new : Client) (requests : List Request) (writer writer' : W)
    (reader reader' : R) (heard heard' : Responses) (error : AskError) : Type 0 where
  pub stops : StopsQueueing old new requests error
  pub same_reading : KeepsReading old new
  pub nothing_written : writer' ≡ writer
  pub nothing_read : reader' ≡ reader
  pub nothing_heard : heard' ≡ heard

-- A write fails, or no turn is left for one, before anything is read.
pub record StopsInWriting {W R : Type 0} (written : W → Option (List ℕ)) (failures : W → ℕ) (old new : Client)
    (requests : List Request) (writer writer' : W) (reader reader' : R) (heard heard' : Responses) (error : AskError) :
    Type 0 where
  pub sends_part : SendsPart old new requests (written writer) (written writer')
  pub same_reading : KeepsReading old new
  pub fails : FailsWriting (failures writer) (failures writer') (state_of new).out error
  pub nothing_read : reader' ≡ reader
  pub nothing_heard : heard' ≡ heard

-- All was written, and the client stops in reading.
pub record StopsInReading {W R : Type 0} (most : ℕ) (written : W → Option (List ℕ)) (remaining : R → Option (List ℕ))
    (calls failures : R → ℕ) (old new : Client) (requests : List Request) (writer writer' : W) (reader reader' : R)
    (heard heard' : Responses) (error : AskError) : Type 0 where
  pub sends_all : SendsAll old requests (written writer) (written writer')
  pub fails : FailsReading (failures reader) (failures reader') (remaining reader) (remaining reader') (state_of new)
      error
  pub came : HearsPieces most remaining calls failures reader reader' (is_of_last_read error) old (sent old requests) heard
      (λ came. StopsListening (sent old requests) new heard heard' came error)

-- A request is refused before anything is written, or a write fails before anything is read, or all was written and the
-- replies received before the error were added.
abbrev pub StopsAsking : {W R : Type 0} → ℕ → (W → Option (List ℕ)) → (W → ℕ) → (R → Option (List ℕ)) → (R → ℕ) →
    (R → ℕ) → Client → Client → List Request → W → W → R → R → Responses → Responses → AskError → Type 0
StopsAsking most written write_failures remaining calls failures old new requests writer writer' reader reader' heard
    heard' error =
    StopsBeforeWriting old new requests writer writer' reader reader' heard heard' error ⊎
    StopsInWriting written write_failures old new requests writer writer' reader reader' heard heard' error ⊎
    StopsInReading most written remaining calls failures old new requests writer writer' reader reader' heard heard' error
