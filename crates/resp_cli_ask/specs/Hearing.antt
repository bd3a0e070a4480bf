-- The replies and pushes that a client receives, and their text.
use Rattle.std.specs.Prelude.{◌≡◌, ℕ, ◌+◌, Bool, true, false, List, length, Option}
use Rattle.resp_value.specs.Data.{Datum}
use Rattle.resp_io.specs.Devices.{Appends}
use Rattle.resp_value.specs.declared.cause.Cause.{Cause}
use Rattle.resp_value.specs.declared.cause.Cause.TheVariants as cause
use Rattle.resp_scan.specs.declared.event as event
use Rattle.resp_session.specs.Heard.{replies_of}
use Rattle.resp_session.specs.Reading.{ClientFault, Waiting}
use Rattle.resp_client.specs.Clients.{ClientState, next_number, state_of}
use Rattle.resp_client.specs.Hearing.{HasTaken}
use Rattle.resp_client.specs.declared.client.Client.{Client}
use Rattle.resp_print.specs.Written.{AppendsPart}
use Rattle.resp_wire.specs.Hearing.{ReadsFrom}
use Rattle.resp_cli_ask.specs.Tellings.{counted_after, errors_among, heard_text}
use Rattle.resp_cli_ask.specs.declared.error.ExchangeError.{ExchangeError}
use Rattle.resp_cli_ask.specs.declared.error.ExchangeError.TheVariants as error
use Rattle.resp_cli_ask.specs.declared.telling.Telling.{Telling}

-- These values were read of a front and the bytes received after it. The client has read the rest, and the replies
-- belong to the commands that waited first.
pub record Receives (s : ClientState) (c : Client) (values : List Datum) (came : List ℕ) : Type 0 where
  pub rest : List ℕ
  pub reads : ReadsFrom s values came (state_of c).waiting rest
  pub takes : HasTaken c rest
  pub answered : (state_of c).answered ≡ s.answered + length (replies_of values)
  pub same_limits : (state_of c).limits ≡ s.limits
  pub same_out : (state_of c).out ≡ s.out

-- All bytes received are read, and the text of all values was printed.
pub record Tells (t t' : Telling) (s : ClientState) (c : Client) (out out' : Option (List ℕ)) (came : List ℕ) :
    Type 0 where
  pub values : List Datum
  pub receives : Receives s c values came
  pub printed : Appends out out' (heard_text t (next_number s) values)
  pub counted : t' ≡ counted_after (errors_among values) t

-- A byte received is rejected, and the text of the values before it was printed.
pub record TellsFault (t t' : Telling) (s : ClientState) (out out' : Option (List ℕ)) (came : List ℕ)
    (fault : event.Fault.Fault) : Type 0 where
  pub values : List Datum
  pub waiting : Waiting
  pub rest : List ℕ
  pub reads : ReadsFrom s values came waiting rest
  pub printed : Appends out out' (heard_text t (next_number s) values)
  pub counted : t' ≡ counted_after (errors_among values) t
  pub fault_of : ClientFault s.limits waiting rest fault.cause fault.at

-- A write or an allocation failed, and the first part of the text of the first values was printed.
pub record TellsSome (t : Telling) (s : ClientState) (out out' : Option (List ℕ)) (came : List ℕ) : Type 0 where
  pub values : List Datum
  pub waiting : Waiting
  pub rest : List ℕ
  pub reads : ReadsFrom s values came waiting rest
  pub printed : AppendsPart out out' (heard_text t (next_number s) values)

-- `OutOfMemory` has an error of its own, and the other faults of a client share one
abbrev pub error_by : Cause → event.Fault.Fault → ExchangeError
error_by cause.OutOfMemory fault = error.Memory
error_by _ fault = error.Fault fault

abbrev pub error_of : event.Fault.Fault → ExchangeError
error_of fault = error_by fault.cause fault

-- the text that was printed of a piece in which the client or its output stopped
abbrev pub StopsTelling : Telling → Telling → ClientState → Option (List ℕ) → Option (List ℕ) → List ℕ → ExchangeError →
    Type 0
StopsTelling t t' s out out' came (error.Fault fault) = TellsFault t t' s out out' came fault
StopsTelling t t' s out out' came error.Memory = TellsSome t s out out' came
StopsTelling t t' s out out' came error.Output = TellsSome t s out out' came
StopsTelling t t' s out out' came _ = ⊥

-- The same of all bytes that were read. If the connection ended or failed, the text of all values was printed.
abbrev pub StopsHearing : Telling → Telling → ClientState → Client → Option (List ℕ) → Option (List ℕ) → List ℕ →
    ExchangeError → Type 0
StopsHearing t t' s c out out' came (error.Fault fault) = TellsFault t t' s out out' came fault
StopsHearing t t' s c out out' came error.Memory = TellsSome t s out out' came
StopsHearing t t' s c out out' came error.Output = TellsSome t s out out' came
StopsHearing t t' s c out out' came error.Read = Tells t t' s c out out' came
StopsHearing t t' s c out out' came error.Ended = Tells t t' s c out out' came
StopsHearing t t' s c out out' came error.TooManyTurns = Tells t t' s c out out' came
StopsHearing t t' s c out out' came _ = ⊥

-- whether a write of the text failed
abbrev pub is_of_output : ExchangeError → Bool
is_of_output error.Output = true
is_of_output _ = false

-- whether a read of replies failed
abbrev pub is_of_reader : ExchangeError → Bool
is_of_reader error.Read = true
is_of_reader _ = false

-- whether a write to the server failed
abbrev pub is_of_writer : ExchangeError → Bool
is_of_writer error.Write = true
is_of_writer _ = false

-- an error of the connection, of the printed text or of memory, and no refusal of a command
abbrev pub IsOfConnection : ExchangeError → Type 0
IsOfConnection (error.Refused refusal) = ⊥
IsOfConnection _ = Unit {0}
