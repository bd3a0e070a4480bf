-- The bytes of commands that are written.
use Rattle.std.specs.Prelude.{◌≡◌, ℕ, ◌<◌, List, [], length, take, Option}
use Rattle.resp_io.specs.Devices.{Appends}
use Rattle.resp_session.specs.Requests.{Request}
use Rattle.resp_client.specs.Clients.{ClientState, without_front}
use Rattle.resp_client.specs.Sending.{DeclinesRequest}
use Rattle.resp_client.specs.declared.send_error.SendError.{SendError}
use Rattle.resp_client.specs.declared.send_error.SendError.TheVariants as send
use Rattle.resp_cli_ask.specs.declared.error.ExchangeError.{ExchangeError}
use Rattle.resp_cli_ask.specs.declared.error.ExchangeError.TheVariants as error

-- all waiting bytes were written
pub record SendsAll (held held' : Option (List ℕ)) (s s' : ClientState) : Type 0 where
  pub appended : Appends held held' s.out
  pub nothing_waits : s' ≡ record s { out = [] }

-- the first of the waiting bytes were written, and the others still wait
pub record SendsPart (held held' : Option (List ℕ)) (s s' : ClientState) : Type 0 where
  pub count : ℕ
  pub within : count < length s.out
  pub appended : Appends held held' (take count s.out)
  pub waits : s' ≡ without_front count s

-- the state once all waiting bytes were written
abbrev pub sent_state : ClientState → ClientState
sent_state s = record s { out = [] }

-- `OutOfMemory` has an error of its own, and the other errors of a request share one
abbrev pub refusal_of : SendError → ExchangeError
refusal_of send.OutOfMemory = error.Memory
refusal_of e = error.Refused e

-- an error that says that the client refuses the request is right
abbrev pub IsRefused : ClientState → Request → ExchangeError → Type 0
IsRefused s request (error.Refused send.OutOfMemory) = ⊥
IsRefused s request (error.Refused e) = DeclinesRequest s request e
IsRefused s request _ = Unit {0}
