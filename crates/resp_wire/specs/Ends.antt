-- The effect of the calls of a world's client.
use Rattle.std.specs.Prelude.{◌≡◌, ℕ, false, List, [], ◌∷◌, ◌++◌, map, Result, Ok, Err}
use Rattle.resp_value.specs.Bounds.{Bounds}
use Rattle.resp_value.specs.Data.{Datum}
use Rattle.resp_value.specs.declared.cause.Cause.{Cause}
use Rattle.resp_value.specs.declared.cause.Cause.TheVariants as cause
use Rattle.resp_session.specs.Requests as session
use Rattle.resp_session.specs.Requests.{RefusesRequest}
use Rattle.resp_client.specs.Clients.{ClientState, new_state, queued, state_of, with_request}
use Rattle.resp_client.specs.Hearing.{HasTaken, KeepsReading}
use Rattle.resp_client.specs.Sending.{MayBeSent}
use Rattle.resp_client.specs.declared.send_error.SendError.{SendError}
use Rattle.resp_client.specs.declared.send_error.SendError.TheVariants.{BadCommand, TooLarge, TooMany, OutOfMemory}
use Rattle.resp_server.specs.declared.error.PushError.{PushError}
use Rattle.resp_server.specs.declared.error.PushError.TheVariants as push
use Rattle.resp_wire.specs.Hearing.{pushes_in, replies_in}
use Rattle.resp_wire.specs.Requests.{request_of}
use Rattle.resp_wire.specs.Worlds.{pushes_with, values_in}
use Rattle.resp_wire.specs.declared.asked.Responses.{Responses}
use Rattle.resp_wire.specs.declared.end.End.{End}
use Rattle.resp_wire.specs.declared.event.Outcome.{Outcome}
use Rattle.resp_wire.specs.declared.event.Outcome.TheVariants.{Done, Refused, Gone}

-- a client that has sent nothing
pub record IsNew (limits : Bounds) (e : End) : Type 0 where
  pub state : state_of e.client ≡ new_state limits
  pub nothing_taken : HasTaken e.client []
  pub asked : map request_of e.asked.items ≡ []
  pub replies : values_in e.replies.items ≡ []
  pub pushes : pushes_with e.pushes.items ≡ []
  pub is_open : e.is_dropped ≡ false

-- the client has this state and these requests, and all else that it shows is unchanged
pub record HasQueued (old new : End) (state : ClientState) (requests : List session.Request) : Type 0 where
  pub now : state_of new.client ≡ state
  pub asked : map request_of new.asked.items ≡ requests
  pub same_reading : KeepsReading old.client new.client
  pub replies : values_in new.replies.items ≡ values_in old.replies.items
  pub pushes : pushes_with new.pushes.items ≡ pushes_with old.pushes.items
  pub dropped : new.is_dropped ≡ old.is_dropped

-- the outcome of a request: it was queued and added to the client's requests, or nothing that is shown has changed
abbrev pub TakesRequest : End → End → session.Request → Outcome → Type 0
TakesRequest old new request Done = MayBeSent (state_of old.client) request ×
    HasQueued old new (with_request request (state_of old.client)) (map request_of old.asked.items ++ request ∷ [])
TakesRequest old new request (Refused cause) =
    RefusesRequest (state_of old.client).limits (queued (state_of old.client)) request cause ×
    HasQueued old new (state_of old.client) (map request_of old.asked.items)
TakesRequest old new request Gone = ⊥

-- the outcome of a request that a client does not queue: `OutOfMemory` stops the world
abbrev pub outcome_of_send : SendError → Result Outcome Cause
outcome_of_send BadCommand = Ok (Refused cause.BadCommand)
outcome_of_send TooLarge = Ok (Refused cause.TooLarge)
outcome_of_send TooMany = Ok (Refused cause.TooMany)
outcome_of_send OutOfMemory = Err cause.OutOfMemory

-- the outcome of a push that a session does not queue: the push is refused, or the world stops
abbrev pub outcome_of_push : PushError → Result Outcome Cause
outcome_of_push push.NoSession = Err cause.NoSession
outcome_of_push push.Closing = Err cause.Closing
outcome_of_push push.NotInVersion = Ok (Refused cause.NotInVersion)
outcome_of_push push.Double = Ok (Refused cause.Double)
outcome_of_push push.NestedPush = Ok (Refused cause.PushBelowTop)
outcome_of_push (push.OverLimits limit) = Ok (Refused (cause.OverLimits limit))
outcome_of_push push.OutOfMemory = Err cause.OutOfMemory

-- the replies, without their numbers, and the pushes received are stored
pub record KeepsHeard (old new : End) (heard : Responses) : Type 0 where
  pub client : new.client ≡ old.client
  pub asked : new.asked ≡ old.asked
  pub replies : values_in new.replies.items ≡
      values_in old.replies.items ++ map (λ (r : ℕ × Datum). r.1) (replies_in heard)
  pub pushes : pushes_with new.pushes.items ≡ pushes_with old.pushes.items ++ pushes_in heard
  pub dropped : new.is_dropped ≡ old.is_dropped
