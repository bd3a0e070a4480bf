-- Worlds: clients and their sessions over one store, and the state after each event.
use Rattle.std.specs.Prelude.{ℕ, zero, suc, List, [], ◌∷◌, ◌++◌, map, fold, Option, None, Some}
use Rattle.resp_value.specs.Data.{Datum}
use Rattle.resp_value.specs.declared.version.Version.{Version}
use Rattle.resp_value.specs.declared.version.Version.TheVariants.{Two}
use Rattle.resp_session.specs.Requests.{Request, Hello, Command, request_words}
use Rattle.resp_session.specs.Stores.{Store, effect_of_words}
use Rattle.resp_session.specs.Connections.{Connection, new_connection, push_message, with_request, with_message, with_effect, with_arrived, with_shown, new_requests, as_dropped}

pub record World : Type 0 where
  -- the clients with their sessions, numbered from 1
  pub connections : List Connection
  -- the client and the words of each command, in the order in which the commands were run
  pub order : List (ℕ × List (List ℕ))
  pub store : Store

-- the events, each of the client of this number
pub data WorldEvent : Type 0 where
  -- it sends a command of these words
  Send : ℕ → List (List ℕ) → WorldEvent
  -- it sends HELLO, with or without a version
  Greet : ℕ → Option Version → WorldEvent
  -- its session receives this many more bytes
  ToServer : ℕ → ℕ → WorldEvent
  -- it receives this many more bytes
  ToClient : ℕ → ℕ → WorldEvent
  -- a push of these items is sent to it
  Push : ℕ → List Datum → WorldEvent
  -- it is dropped
  Drop : ℕ → WorldEvent

-- the client of an event
abbrev pub client_of : WorldEvent → ℕ
client_of (Send i words) = i
client_of (Greet i asked) = i
client_of (ToServer i k) = i
client_of (ToClient i k) = i
client_of (Push i items) = i
client_of (Drop i) = i

-- the connection of this number
abbrev pub connection_at : List Connection → ℕ → Option Connection
connection_at [] i = None
connection_at (c ∷ cs) zero = None
connection_at (c ∷ cs) (suc zero) = Some c
connection_at (c ∷ cs) (suc (suc i)) = connection_at cs (suc i)

-- the connections, with this change to the one of this number
abbrev pub with_change : (Connection → Connection) → List Connection → ℕ → List Connection
with_change f [] i = []
with_change f (c ∷ cs) zero = c ∷ cs
with_change f (c ∷ cs) (suc zero) = f c ∷ cs
with_change f (c ∷ cs) (suc (suc i)) = c ∷ with_change f cs (suc i)

-- the session's version, and version 2 if there is no session
abbrev pub version_of : Option Connection → Version
version_of None = Two
version_of (Some c) = c.version

-- the world with this change to the connection of this number
abbrev pub world_with : (Connection → Connection) → World → ℕ → World
world_with f w i = record w { connections = with_change f w.connections i }

-- the world after a command of a client with these words
abbrev pub after_command : World → ℕ × List (List ℕ) → World
after_command w command =
    let effect = effect_of_words w.store (version_of (connection_at w.connections command.0)) command.0 command.1 in
    record {
      connections = with_change (with_effect effect) w.connections command.0;
      order = w.order ++ command ∷ [];
      store = effect.store;
    }

-- the world after commands, one after another
abbrev pub after_commands : World → List (ℕ × List (List ℕ)) → World
after_commands w commands = fold after_command w commands

-- the commands of a client for these requests
abbrev pub commands_for : ℕ → List Request → List (ℕ × List (List ℕ))
commands_for i requests = map (λ (request : Request). (i, request_words request)) requests

-- the world after the session of this connection received this many more bytes
abbrev pub after_arrival : World → ℕ → ℕ → Option Connection → World
after_arrival w i k None = w
after_arrival w i k (Some c) = after_commands (world_with (with_arrived k) w i) (commands_for i (new_requests k c))

-- the world after an event that is not refused
abbrev pub after_event : World → WorldEvent → World
after_event w (Send i words) = world_with (with_request (Command words)) w i
after_event w (Greet i asked) = world_with (with_request (Hello asked)) w i
after_event w (ToServer i k) = after_arrival w i k (connection_at w.connections i)
after_event w (ToClient i k) = world_with (with_shown k) w i
after_event w (Push i items) = world_with (with_message (push_message items)) w i
after_event w (Drop i) = world_with as_dropped w i

-- this many connections on which nothing was sent
abbrev pub new_connections : ℕ → List Connection
new_connections zero = []
new_connections (suc n) = new_connection ∷ new_connections n

-- this many clients that have sent nothing, over an empty store
abbrev pub new_world : ℕ → World
new_world n = record { connections = new_connections n; order = []; store = [] }
