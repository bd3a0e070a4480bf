-- Carrying bytes between a client and its session.
use Rattle.std.specs.Prelude.{◌≡◌, ◌⊎◌, ℕ, Bool, true, false, List, ◌++◌, take, replicate}
use Rattle.resp_io.specs.Devices.{HasRisen, failures_after}
use Rattle.resp_value.specs.declared.cause.Cause.{Cause}
use Rattle.resp_value.specs.declared.cause.Cause.TheVariants.{OutOfMemory}
use Rattle.resp_scan.specs.declared.event.Fault.{Fault}
use Rattle.resp_session.specs.Reading.{MayGoOn}
use Rattle.resp_client.specs.Clients.{ClientState, state_of}
use Rattle.resp_client.specs.declared.client.Client.{Client}
use Rattle.resp_server.specs.Handling.{HasAnswered}
use Rattle.resp_server.specs.Hubs.{HubState, Seat}
use Rattle.resp_wire.specs.Hearing.{HearsAll, HearsFault}
use Rattle.resp_wire.specs.Links.{is_of_link}
use Rattle.resp_wire.specs.declared.asked.Responses.{Responses}
use Rattle.resp_wire.specs.declared.error.AskError.{AskError}
use Rattle.resp_wire.specs.declared.error.AskError.TheVariants as ask

-- the text was answered in a session that is still open, and this number was added to the order for each command
pub record HasBrought (old new : HubState) (id : ℕ) (s : Seat) (text order order' : List ℕ) (number : ℕ) : Type 0 where
  pub commands : ℕ
  pub answered : HasAnswered old new id s text commands
  pub is_open : answered.closing ≡ false
  pub added : order' ≡ order ++ replicate commands number

-- the first bytes of the text were answered, and the answer closed the session
pub record HasClosed (old : HubState) (id : ℕ) (s : Seat) (front text : List ℕ) : Type 0 where
  pub count : ℕ
  pub new : HubState
  pub commands : ℕ
  pub answered : HasAnswered old new id s (front ++ take count text) commands
  pub is_closing : answered.closing ≡ true

-- an honest link stays honest, and a link has failed once if that stopped the call, otherwise not
pub record LinkGoesOn {L : Type 0} (is_honest : L → Type 0) (fails : L → ℕ) (old new : L) (failed : Bool) : Type 0 where
  pub honest : is_honest old → is_honest new
  pub failures : fails new ≡ failures_after failed (fails old)

-- all bytes received are read, and the bytes that the client has read of a value are viable
pub record HearsOn (s : ClientState) (c : Client) (before after : Responses) (came : List ℕ) : Type 0 where
  pub hears : HearsAll s c before after came
  pub may_go_on : MayGoOn (state_of c).limits (state_of c).waiting hears.rest

-- the client rejected a byte of the front and the first bytes of the text, with this cause
pub record MeetsFault (s : ClientState) (before after : Responses) (front text : List ℕ) (cause : Cause) : Type 0 where
  pub count : ℕ
  pub fault : Fault
  pub met : HearsFault s before after (front ++ take count text) fault
  pub named : fault.cause ≡ cause

-- Why no more bytes are carried: memory was out, the link failed, or this is true of the end that receives them.
abbrev pub StopsCarrying : (Cause → Type 0) → ℕ → ℕ → Cause → Type 0
StopsCarrying IsRefused failures failures' cause =
    (cause ≡ OutOfMemory) ⊎ HasRisen failures failures' × (is_of_link cause ≡ true) ⊎ IsRefused cause

-- the cause of a client's error
abbrev pub cause_of : AskError → Cause
cause_of (ask.Fault fault) = fault.cause
cause_of _ = OutOfMemory
