-- The result of a client for a request.
use Rattle.std.specs.Prelude.{◌≡◌, ℕ, ◌+◌, ◌<◌, ◌^◌, false, Result, Ok, Err}
use Rattle.resp_value.specs.declared.cause.Cause.TheVariants as cause
use Rattle.resp_session.specs.Requests.{FitsRequest, RefusesRequest, Request, is_unsent_request}
use Rattle.resp_client.specs.Clients.{ClientState, queued}
use Rattle.resp_client.specs.declared.send_error.SendError.{SendError}
use Rattle.resp_client.specs.declared.send_error.SendError.TheVariants.{BadCommand, TooLarge, TooMany, OutOfMemory}

-- only `OutOfMemory` may keep the request from being queued
pub record MayBeSent (s : ClientState) (request : Request) : Type 0 where
  pub is_sent : is_unsent_request request ≡ false
  pub fits : FitsRequest s.limits request
  pub number_left : queued s < 2 ^ 63

-- the request is refused with this error: the first that applies, and `OutOfMemory` only if no other applies
abbrev pub DeclinesRequest : ClientState → Request → SendError → Type 0
DeclinesRequest s request BadCommand = RefusesRequest s.limits (queued s) request cause.BadCommand
DeclinesRequest s request TooLarge = RefusesRequest s.limits (queued s) request cause.TooLarge
DeclinesRequest s request TooMany = RefusesRequest s.limits (queued s) request cause.TooMany
DeclinesRequest s request OutOfMemory = MayBeSent s request

-- the result is the next number, or an error
abbrev pub AnswersRequest : ClientState → Request → Result ℕ SendError → Type 0
AnswersRequest s request (Ok number) = MayBeSent s request × (number ≡ queued s + 1)
AnswersRequest s request (Err error) = DeclinesRequest s request error
