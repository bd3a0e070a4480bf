-- The replies and pushes received from the other end of a connection, in terms of texts and values.
use Rattle.std.specs.Prelude.{◌≡◌, ◌≢◌, ℕ, ◌+◌, ◌<◌, List, [], ◌∷◌, ◌++◌, length, map, take}
use Rattle.std.specs.List.{concat}
use Rattle.resp_value.specs.Data.{Datum}
use Rattle.resp_value.specs.Values.{datum_of}
use Rattle.resp_value.specs.declared.value.Value.{Value}
use Rattle.resp_value.specs.declared.value.Value.TheVariants as value
use Rattle.resp_value.specs.declared.value.Members.{Members}
use Rattle.resp_scan.specs.declared.event.Fault.{Fault}
use Rattle.resp_session.specs.Heard.{numbered_replies, pushes_of, replies_of}
use Rattle.resp_session.specs.Reading.{ClientFault, ReadsAs, Waiting}
use Rattle.resp_client.specs.Clients.{ClientState, next_number, state_of}
use Rattle.resp_client.specs.Hearing.{HasTaken}
use Rattle.resp_client.specs.declared.client.Client.{Client}
use Rattle.resp_client.specs.declared.heard.What.{What}
use Rattle.resp_client.specs.declared.heard.What.TheVariants.{Reply, Push, Shown, More}
use Rattle.resp_wire.specs.declared.asked.Responses.{Responses}

-- the replies that were received, with their numbers
abbrev pub replies_in : Responses → List (ℕ × Datum)
replies_in asked = map (λ (reply : ℕ × Value). (reply.0, datum_of reply.1)) asked.replies.items

-- the pushes that were received
abbrev pub pushes_in : Responses → List Datum
pushes_in asked = map (λ (items : Members). datum_of (value.Push items)) asked.pushes.items

-- these replies and pushes were added
abbrev pub Adds : Responses → Responses → List (ℕ × Datum) → List Datum → Type 0
Adds before after replies pushes = (replies_in after ≡ replies_in before ++ replies) ×
    (pushes_in after ≡ pushes_in before ++ pushes)

-- the reply or push was added
abbrev pub AddsHeard : Responses → Responses → What → Type 0
AddsHeard before after (Reply number x) = Adds before after ((number, datum_of x) ∷ []) []
AddsHeard before after (Push items) = Adds before after [] (datum_of (value.Push items) ∷ [])
AddsHeard before after Shown = Adds before after [] []
AddsHeard before after More = Adds before after [] []

-- These values were read of a front and the bytes received after it, given the commands that waited, and a rest is
-- left.
pub record ReadsFrom (s : ClientState) (values : List Datum) (came : List ℕ) (waiting : Waiting) (rest : List ℕ) :
    Type 0 where
  pub text : List ℕ
  pub reads : ReadsAs s.limits s.waiting values text waiting
  pub whole : came ≡ text ++ rest

-- All bytes received are read: the values are added, and the client has read the rest.
pub record HearsAll (s : ClientState) (c : Client) (before after : Responses) (came : List ℕ) : Type 0 where
  pub values : List Datum
  pub rest : List ℕ
  pub reads : ReadsFrom s values came (state_of c).waiting rest
  pub heard : Adds before after (numbered_replies (next_number s) values) (pushes_of values)
  pub takes : HasTaken c rest
  pub answered : (state_of c).answered ≡ s.answered + length (replies_of values)
  pub same_limits : (state_of c).limits ≡ s.limits
  pub same_out : (state_of c).out ≡ s.out

-- after these bytes a command still waits
pub record StillWaits (s : ClientState) (before : Responses) (came : List ℕ) : Type 0 where
  pub between : Client
  pub heard : Responses
  pub hears : HearsAll s between before heard came
  pub waits : (state_of between).waiting.asks ≢ []

-- Each piece was read only while a command waited after all bytes received before it.
abbrev pub WaitsBefore : ClientState → Responses → List ℕ → List (List ℕ) → Type 0
WaitsBefore s before front pieces = (k : ℕ) → k < length pieces →
    StillWaits s before (front ++ concat (take k pieces))

-- An allocation failed, and the first of the values are added.
pub record HearsSome (s : ClientState) (before after : Responses) (came : List ℕ) : Type 0 where
  pub values : List Datum
  pub waiting : Waiting
  pub rest : List ℕ
  pub reads : ReadsFrom s values came waiting rest
  pub heard : Adds before after (numbered_replies (next_number s) values) (pushes_of values)

-- A byte received is rejected, and the values before it are added.
pub record HearsFault (s : ClientState) (before after : Responses) (came : List ℕ) (fault : Fault) : Type 0 where
  pub some : HearsSome s before after came
  pub fault_of : ClientFault s.limits some.waiting some.rest fault.cause fault.at

-- The same. The client's commands up to the last reply before the rejected byte are answered, and the others still wait.
pub record StopsAtFault (s : ClientState) (c : Client) (before after : Responses) (came : List ℕ) (fault : Fault) : Type 0 where
  pub hears : HearsFault s before after came fault
  pub waits : (state_of c).waiting ≡ hears.some.waiting
  pub answered : (state_of c).answered ≡ s.answered + length (replies_of hears.some.values)
  pub same_limits : (state_of c).limits ≡ s.limits
  pub same_out : (state_of c).out ≡ s.out
