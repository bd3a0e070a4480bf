-- Why a client's end stops, and the replies and pushes received by then.
use Rattle.std.specs.Prelude.{◌≡◌, ◌≢◌, ◌<◌, ◌≤◌, ℕ, Bool, true, false, List, [], ◌∷◌, length, take, drop, Option}
use Rattle.resp_io.specs.Devices.{HasRisen}
use Rattle.resp_value.specs.declared.cause.Cause.{Cause}
use Rattle.resp_value.specs.declared.cause.Cause.TheVariants as cause
use Rattle.resp_scan.specs.declared.event as event
use Rattle.resp_client.specs.Clients.{ClientState, state_of}
use Rattle.resp_client.specs.Hearing.{HasFault}
use Rattle.resp_client.specs.Sending.{DeclinesRequest}
use Rattle.resp_client.specs.declared.client.Client.{Client}
use Rattle.resp_client.specs.declared.send_error.SendError.{SendError}
use Rattle.resp_client.specs.declared.send_error.SendError.TheVariants as send
use Rattle.resp_wire.specs.Hearing.{HearsAll, HearsSome, StopsAtFault}
use Rattle.resp_wire.specs.Requests.{MayAllBeSent, request_of, with_requests}
use Rattle.resp_io.specs.Turns.{TellsEnd}
use Rattle.resp_wire.specs.declared.asked.Responses.{Responses}
use Rattle.resp_wire.specs.declared.asked.Request.{Request}
use Rattle.resp_wire.specs.declared.error.AskError.{AskError}
use Rattle.resp_wire.specs.declared.error.AskError.TheVariants.{Ended, Fault, OutOfMemory, Read, Refused, TooManyTurns, Write}

-- `OutOfMemory` has an error of its own, and the other faults of a client share one
abbrev pub error_by : Cause → event.Fault.Fault → AskError
error_by cause.OutOfMemory fault = OutOfMemory
error_by _ fault = Fault fault

-- `OutOfMemory` has an error of its own, and the other errors of a request share one
abbrev pub error_at : ℕ → SendError → AskError
error_at index send.OutOfMemory = OutOfMemory
error_at index error = Refused index error

-- this many of the first requests were queued, each of which may be sent
pub record QueuesFirst (old new : Client) (requests : List Request) (count : ℕ) : Type 0 where
  pub within : count ≤ length requests
  pub may_be_sent : MayAllBeSent (take count requests) (state_of old)
  pub queued : state_of new ≡ with_requests (take count requests) (state_of old)

-- the requests before this one were queued, and this one is refused
pub record DeclinesAt (old new : Client) (requests : List Request) (index : ℕ) (error : SendError) : Type 0 where
  pub before : QueuesFirst old new requests index
  pub request : Request
  pub later : List Request
  pub here : drop index requests ≡ request ∷ later
  pub declined : DeclinesRequest (state_of new) (request_of request) error

-- a request is refused, or an allocation failed for a request
abbrev pub StopsQueueing : Client → Client → List Request → AskError → Type 0
StopsQueueing old new requests (Refused index send.OutOfMemory) = ⊥
StopsQueueing old new requests (Refused index error) = DeclinesAt old new requests index error
StopsQueueing old new requests OutOfMemory = (index : ℕ) × DeclinesAt old new requests index send.OutOfMemory
StopsQueueing old new requests _ = ⊥

-- a client stops because of a fault or when out of memory
abbrev pub StopsClient : AskError → Type 0
StopsClient (Fault fault) = Unit {0}
StopsClient OutOfMemory = Unit {0}
StopsClient _ = ⊥

-- the client returns a fault from now on
abbrev pub KeepsFault : Client → AskError → Type 0
KeepsFault c (Fault fault) = HasFault c fault
KeepsFault c _ = Unit {0}

-- whether the call stopped because a write failed
abbrev pub is_of_writer : AskError → Bool
is_of_writer Write = true
is_of_writer _ = false

-- whether the call stopped because a read failed
abbrev pub is_of_reader : AskError → Bool
is_of_reader Read = true
is_of_reader _ = false

-- whether the last read returned no byte, because it failed or was at the end
abbrev pub is_of_last_read : AskError → Bool
is_of_last_read Read = true
is_of_last_read Ended = true
is_of_last_read _ = false

-- why bytes still wait to be written: a write failed, or no turn is left
abbrev pub FailsWriting : ℕ → ℕ → List ℕ → AskError → Type 0
FailsWriting failures failures' waits Write = HasRisen failures failures' × (0 < length waits)
FailsWriting failures failures' waits TooManyTurns = 0 < length waits
FailsWriting failures failures' waits _ = ⊥

-- The replies and pushes received of all bytes that were read, when a call stopped: if no byte was rejected and no
-- allocation failed, they are all of them.
abbrev pub StopsListening : ClientState → Client → Responses → Responses → List ℕ → AskError → Type 0
StopsListening s c before after came (Fault fault) = StopsAtFault s c before after came fault
StopsListening s c before after came OutOfMemory = HearsSome s before after came
StopsListening s c before after came Read = HearsAll s c before after came
StopsListening s c before after came TooManyTurns = HearsAll s c before after came
StopsListening s c before after came Ended = HearsAll s c before after came
StopsListening s c before after came _ = ⊥

-- why reading stops while a request waits: a read failed, no turn is left, the input ended, or the client stopped
abbrev pub FailsReading : ℕ → ℕ → Option (List ℕ) → Option (List ℕ) → ClientState → AskError → Type 0
FailsReading failures failures' left left' s Read = HasRisen failures failures' × (s.waiting.asks ≢ [])
FailsReading failures failures' left left' s TooManyTurns = s.waiting.asks ≢ []
FailsReading failures failures' left left' s Ended = TellsEnd left left' × (s.waiting.asks ≢ [])
FailsReading failures failures' left left' s (Fault fault) = Unit {0}
FailsReading failures failures' left left' s OutOfMemory = Unit {0}
FailsReading failures failures' left left' s _ = ⊥
