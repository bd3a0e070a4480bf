-- The results of a client's requests.
use Rattle.std.specs.Prelude.{◌≡◌, ℕ, ◌≤◌, List, [], length, take, Option}
use Rattle.resp_io.specs.Devices.{Appends}
use Rattle.resp_client.specs.Clients.{ClientState, state_of, without_front}
use Rattle.resp_client.specs.declared.client.Client.{Client}
use Rattle.resp_wire.specs.Requests.{MayAllBeSent, with_requests}
use Rattle.resp_wire.specs.declared.asked.Request.{Request}

-- the state of the client once all requests are queued
abbrev pub asked : Client → List Request → ClientState
asked c requests = with_requests requests (state_of c)

-- the state of the client once all waiting bytes are written
abbrev pub sent : Client → List Request → ClientState
sent c requests = record (asked c requests) { out = [] }

-- all requests were queued, and then all waiting bytes were written
pub record SendsAll (c : Client) (requests : List Request) (held held' : Option (List ℕ)) : Type 0 where
  pub may_be_sent : MayAllBeSent requests (state_of c)
  pub appended : Appends held held' (asked c requests).out

-- all requests were queued, and then the first of the waiting bytes were written; the others still wait
pub record SendsPart (old new : Client) (requests : List Request) (held held' : Option (List ℕ)) : Type 0 where
  pub may_be_sent : MayAllBeSent requests (state_of old)
  pub count : ℕ
  pub within : count ≤ length (asked old requests).out
  pub appended : Appends held held' (take count (asked old requests).out)
  pub waits : state_of new ≡ without_front count (asked old requests)
