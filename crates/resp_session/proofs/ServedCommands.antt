-- A session's answers to commands, and what the commands leave in a world.
use Rattle.std.proofs.Common.{◌≡◌, ℕ, ◌+◌, ◌<◌, false, cond, List, [], ◌∷◌, ◌++◌, length, map, Some, refl, sym, ap, subst, ◌∙◌, arith, append_assoc, append-nil}
use Rattle.std.specs.List.{AllByRecursion, concat}
use Rattle.resp_value.specs.Data.{Datum}
use Rattle.resp_value.specs.Words.{command_of}
use Rattle.resp_session.specs.Answers.{SessionState, after_effect, after_meaning, after_value, after_values}
use Rattle.resp_session.specs.Commands.{meaning_of}
use Rattle.resp_session.specs.Connections.{Connection, Message, message_text, with_effect}
use Rattle.resp_session.specs.Operations.{operation_of}
use Rattle.resp_session.specs.Requests.{Request, request_words}
use Rattle.resp_session.specs.Serving.{IsSameClient}
use Rattle.resp_session.specs.Stores.{Effect, effect_of}
use Rattle.resp_session.specs.WorldLaws.{HasName}
use Rattle.resp_session.specs.Worlds.{World, after_command, after_commands, commands_for, connection_at, version_of, with_change}
use Rattle.resp_session.proofs.Changes.{changed_at}
use Rattle.resp_session.proofs.CommandWords.{meaning_of-command_of}

abbrev pub command_value : Request → Datum
command_value request = command_of (request_words request)

-- the world after a command that had this effect
abbrev left_by : Effect → World → ℕ → List (List ℕ) → World
left_by effect w i words = record {
  connections = with_change (with_effect effect) w.connections i;
  order = w.order ++ (i, words) ∷ [];
  store = effect.store;
}

-- what a command does to a session, and the same to its world
record OneEffect (i : ℕ) (words : List (List ℕ)) (s : SessionState) (w : World) : Type 0 where
  effect : Effect
  session : after_value i s (command_of words) ≡ after_effect effect s
  world : after_command w (i, words) ≡ left_by effect w i words

-- a session and its connection have one store and one version
pub record Stands (i : ℕ) (s : SessionState) (w : World) (c : Connection) : Type 0 where
  pub at : connection_at w.connections i ≡ Some c
  pub store : s.store ≡ w.store
  pub version : s.version ≡ c.version
  pub is_open : s.closing ≡ false

one_effect : (i : ℕ) (words : List (List ℕ)) (s : SessionState) (w : World) (c : Connection) → 0 < length words → Stands i s w c → OneEffect i words s w
one_effect i [] s w c full h = absurd (omega (arith, full))
one_effect i (name ∷ arguments) s w c full h =
    let version : version_of (connection_at w.connections i) ≡ s.version = ap version_of h.at ∙ sym h.version in
    record {
      effect = effect_of s.store s.version i (operation_of name arguments);
      session = ap (λ b. cond b s (after_meaning i s (meaning_of (command_of (name ∷ arguments))))) h.is_open ∙
          ap (after_meaning i s) (meaning_of-command_of name arguments);
      world = ap (λ v. left_by (effect_of w.store v i (operation_of name arguments)) w i (name ∷ arguments)) version ∙
          ap (λ st. left_by (effect_of st s.version i (operation_of name arguments)) w i (name ∷ arguments)) (sym h.store);
    }

-- what commands leave: the session stands with its connection, which has these messages more
pub record IsServed (i : ℕ) (requests : List Request) (s later : SessionState) (w left : World) (c : Connection) : Type 0 where
  pub next : Connection
  pub stands : Stands i later left next
  pub client : IsSameClient next c
  pub arrived : next.arrived ≡ c.arrived
  pub messages : List Message
  pub sent : next.messages ≡ c.messages ++ messages
  pub text : later.text ≡ s.text ++ concat (map message_text messages)
  pub count : later.count ≡ s.count + length requests

abbrev message_of : Effect → Message
message_of effect = record { value = effect.reply; version = effect.version }

one_more : (i : ℕ) (request : Request) (requests : List Request) (s : SessionState) (w : World) (c : Connection) (e : Effect) →
    IsServed i requests (after_effect e s) (after_values i (after_effect e s) (map command_value requests)) (left_by e w i (request_words request))
    (after_commands (left_by e w i (request_words request)) (commands_for i requests)) (with_effect e c) →
    IsServed i (request ∷ requests) s (after_values i (after_effect e s) (map command_value requests)) w
    (after_commands (left_by e w i (request_words request)) (commands_for i requests)) c
one_more i request requests s w c e h = record {
  next = h.next;
  stands = h.stands;
  client = record { requests = h.client.requests; shown = h.client.shown; dropped = h.client.dropped };
  arrived = h.arrived;
  messages = message_of e ∷ h.messages;
  sent = h.sent ∙ append_assoc c.messages (message_of e ∷ []) h.messages;
  text = h.text ∙ append_assoc s.text (message_text (message_of e)) (concat (map message_text h.messages));
  count = let k = h.count in omega (arith, k);
}

pub served : (i : ℕ) (requests : List Request) → AllByRecursion HasName requests → (s : SessionState) (w : World) (c : Connection) →
    Stands i s w c → IsServed i requests s (after_values i s (map command_value requests)) w (after_commands w (commands_for i requests)) c
served i [] named s w c stands = record {
  next = c;
  stands = stands;
  client = record { requests = refl; shown = refl; dropped = refl };
  arrived = refl;
  messages = [];
  sent = sym (append-nil c.messages);
  text = sym (append-nil s.text);
  count = omega arith;
}
served i (request ∷ requests) named s w c stands =
    let o = one_effect i (request_words request) s w c named.0 stands in
    let after : Stands i (after_effect o.effect s) (left_by o.effect w i (request_words request)) (with_effect o.effect c) = record {
      at = changed_at (with_effect o.effect) w.connections i c stands.at;
      store = refl;
      version = refl;
      is_open = stands.is_open;
    } in
    let h = served i requests named.1 (after_effect o.effect s) (left_by o.effect w i (request_words request)) (with_effect o.effect c) after in
    let both = one_more i request requests s w c o.effect h in
    let rest = map command_value requests in
    let first : IsServed i (request ∷ requests) s (after_values i (after_effect o.effect s) rest) w
    (after_commands (after_command w (i, request_words request)) (commands_for i requests)) c =
    subst (λ v. IsServed i (request ∷ requests) s (after_values i (after_effect o.effect s) rest) w (after_commands v (commands_for i requests)) c)
    (sym o.world) both in
    let left : World = after_commands (after_command w (i, request_words request)) (commands_for i requests) in
    subst (λ t. IsServed i (request ∷ requests) s (after_values i t rest) w left c) (sym o.session) first
