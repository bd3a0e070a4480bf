-- One order of all commands.
use Rattle.std.specs.Prelude.{◌≡◌, ℕ, ◌==◌, ◌≤◌, not, List, [], ◌∷◌, ◌++◌, length, map, filter, fold, Some, if◌then◌else◌}
use Rattle.std.specs.List.{AllByRecursion}
use Rattle.resp_value.specs.declared.version.Version.{Version}
use Rattle.resp_value.specs.declared.version.Version.TheVariants.{Two}
use Rattle.resp_session.specs.Heard.{is_push}
use Rattle.resp_session.specs.Operations.{operation_of}
use Rattle.resp_session.specs.Requests.{request_words}
use Rattle.resp_session.specs.Stores.{Store, Effect, effect_of}
use Rattle.resp_session.specs.Connections.{Connection, Message}
use Rattle.resp_session.specs.Worlds.{World, connection_at}

-- the words of one client's commands, in their order
abbrev pub part_of_client : ℕ → List (ℕ × List (List ℕ)) → List (List (List ℕ))
part_of_client i order =
    map (λ (c : ℕ × List (List ℕ)). c.1) (filter (λ (c : ℕ × List (List ℕ)). c.0 == i) order)

-- the result of commands that are run one after another: one store, and for each client's number the version of its
-- session and the replies to it
pub record Replay : Type 0 where
  pub store : Store
  pub version : ℕ → Version
  pub replies : ℕ → List Message

-- before any command: an empty store, version 2 for all clients, and no replies
abbrev pub nothing_run : Replay
nothing_run = record { store = []; version = λ i. Two; replies = λ i. [] }

-- the same function, except that its value at this number is x
abbrev pub with_at : {X : Type 0} → ℕ → X → (ℕ → X) → ℕ → X
with_at {X} i x f j = if j == i then x else f j

-- after a command of this client with this effect: its reply is added for the client, and the other clients are
-- unchanged
abbrev pub replay_effect : Replay → ℕ → Effect → Replay
replay_effect r i effect = record {
  store = effect.store;
  version = with_at i effect.version r.version;
  replies = with_at i (r.replies i ++ (record { value = effect.reply; version = effect.version }) ∷ []) r.replies;
}

-- after a command of this client with these words, run on the store that all commands before it have left
abbrev pub replay_words : Replay → ℕ → List (List ℕ) → Replay
replay_words r i [] = r
replay_words r i (name ∷ arguments) =
    replay_effect r i (effect_of r.store (r.version i) i (operation_of name arguments))

-- the result of these commands, run one after another
abbrev pub replay_of : List (ℕ × List (List ℕ)) → Replay
replay_of order = fold (λ r (c : ℕ × List (List ℕ)). replay_words r c.0 c.1) nothing_run order

-- the first list is a prefix of the second
abbrev pub IsBeginning : {X : Type 0} → List X → List X → Type 0
IsBeginning {X} xs ys = (rest : List X) × (ys ≡ xs ++ rest)

-- the replies that a session has sent
abbrev pub sent_replies : Connection → List Message
sent_replies c = filter (λ (m : Message). not (is_push m.value)) c.messages

-- the world has the store of the replay, and each session has the version and the replies of the replay
pub record Agrees (w : World) (r : Replay) : Type 0 where
  pub store : w.store ≡ r.store
  pub versions : (i : ℕ) (c : Connection) → connection_at w.connections i ≡ Some c → c.version ≡ r.version i
  pub replies : (i : ℕ) (c : Connection) → connection_at w.connections i ≡ Some c → sent_replies c ≡ r.replies i

-- one order of all commands of this many clients: store, versions and replies are those of the commands run one after
-- another, and the commands of each client are a prefix of its requests
pub record OneOrder (n : ℕ) (w : World) : Type 0 where
  pub count : length w.connections ≡ n
  pub clients : AllByRecursion (λ (c : ℕ × List (List ℕ)). (1 ≤ c.0) × (c.0 ≤ n)) w.order
  pub replay : Agrees w (replay_of w.order)
  pub parts : (i : ℕ) (c : Connection) → connection_at w.connections i ≡ Some c →
      IsBeginning (part_of_client i w.order) (map request_words c.requests)
