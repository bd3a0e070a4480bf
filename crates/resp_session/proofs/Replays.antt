-- A world and its order's commands, run one after another.
use Rattle.std.proofs.Common.{◌≡◌, inl, inr, ℕ, zero, suc, ◌<◌, ◌≤◌, Bool, false, not, cond, filter, List, [], ◌∷◌, ◌++◌, length, fold, Option, None, Some, refl, sym, ap, subst, ◌∙◌, arith, append-nil}
use Rattle.std.proofs.lemmas.Bool.{eq-eqb, ne_eqb}
use Rattle.std.proofs.lemmas.List.Elements.{filter-append}
use Rattle.std.proofs.lemmas.List.Sums.{fold-append}
use Rattle.std.specs.List.{AllByRecursion}
use Rattle.resp_value.specs.Bounds.{Bounds}
use Rattle.resp_session.specs.Heard.{is_push}
use Rattle.resp_session.specs.Operations.{operation_of}
use Rattle.resp_session.specs.Requests.{Request, Hello, Command, request_words}
use Rattle.resp_session.specs.Stores.{Effect, effect_of, effect_of_words}
use Rattle.resp_session.specs.Connections.{Connection, Message, new_requests, push_message, with_request, with_message, with_effect, with_arrived, with_shown, as_dropped}
use Rattle.resp_session.specs.Worlds.{World, WorldEvent, Send, Greet, ToServer, ToClient, Push, Drop, after_event, after_arrival, after_command, after_commands, commands_for, connection_at, with_change, world_with, version_of, new_connections, new_world}
use Rattle.resp_session.specs.Runs.{Outcome, Done, Refused, Gone, Step, Run}
use Rattle.resp_session.specs.Orders.{Replay, Agrees, nothing_run, with_at, replay_effect, replay_words, replay_of, sent_replies}
use Rattle.resp_session.proofs.Changes.{as_many, changed_at, is_changed}
use Rattle.resp_session.proofs.NamedRequests.{AllNamed, AreNamed, news_are_named, new_named, step_named}
use Rattle.resp_session.proofs.OrdersGoOn.{after_commands-order}
use Rattle.resp_session.proofs.Parts.{replies_to_words}
use Rattle.resp_session.proofs.WorldsHold.{new_at}

abbrev is_reply : Message → Bool
is_reply m = not (is_push m.value)

abbrev reply_message : Effect → Message
reply_message effect = record { value = effect.reply; version = effect.version }

-- a connection after a command has sent one reply more
one_reply_more : (effect : Effect) (c : Connection) → is_push effect.reply ≡ false →
    sent_replies (with_effect effect c) ≡ sent_replies c ++ reply_message effect ∷ []
one_reply_more effect c e =
    let m = reply_message effect in
    let one : filter is_reply (m ∷ []) ≡ m ∷ [] = ap (λ b. cond (not b) (m ∷ []) []) e in
    filter-append is_reply c.messages (m ∷ []) ∙ ap (λ l. sent_replies c ++ l) one

-- what stands at the number that was changed, and at another one
at_own : {X : Type 0} (i j : ℕ) (x : X) (f : ℕ → X) → i ≡ j → with_at i x f j ≡ x
at_own i j x f e = ap (λ b. cond b x (f j)) (eq-eqb j i (sym e))

at_other : {X : Type 0} (i j : ℕ) (x : X) (f : ℕ → X) → (i ≡ j → ⊥) → with_at i x f j ≡ f j
at_other i j x f e = ap (λ b. cond b x (f j)) (ne_eqb j i (λ h. e (sym h)))

-- an effect that the world and the replay have both had, on a connection that is there
effect_agrees : (w : World) (r : Replay) (i : ℕ) (words : List (List ℕ)) (effect : Effect) → is_push effect.reply ≡ false → Agrees w r →
    Agrees (record { connections = with_change (with_effect effect) w.connections i; order = w.order ++ (i, words) ∷ []; store = effect.store })
    (replay_effect r i effect)
effect_agrees w r i words effect reply a =
    let m = reply_message effect in
    let next = replay_effect r i effect in
    record {
      store = refl;
      versions = λ j c e. elim (is_changed (with_effect effect) w.connections i j c e) as (λ _. c.version ≡ next.version j) [
        | inl h ↦ let (before, at, same) = h.1 in ap (λ (x : Connection). x.version) same ∙ sym (at_own i j effect.version r.version h.0)
        | inr h ↦ a.versions j c h.1 ∙ sym (at_other i j effect.version r.version h.0)
      ];
      replies = λ j c e. elim (is_changed (with_effect effect) w.connections i j c e) as (λ _. sent_replies c ≡ next.replies j) [
        | inl h ↦ let (before, at, same) = h.1 in
            ap sent_replies same ∙ one_reply_more effect before reply ∙ ap (λ l. l ++ m ∷ []) (a.replies j before at) ∙
            ap (λ x. r.replies x ++ m ∷ []) (sym h.0) ∙ sym (at_own i j (r.replies i ++ m ∷ []) r.replies h.0)
        | inr h ↦ a.replies j c h.1 ∙ sym (at_other i j (r.replies i ++ m ∷ []) r.replies h.0)
      ];
    }

-- a command of a client of the world
command_agrees : (w : World) (r : Replay) (i : ℕ) (own : Connection) (words : List (List ℕ)) → connection_at w.connections i ≡ Some own →
    0 < length words → Agrees w r → Agrees (after_command w (i, words)) (replay_words r i words)
command_agrees w r i own [] at named a = absurd (omega (arith, named))
command_agrees w r i own (name ∷ arguments) at named a =
    let operation = operation_of name arguments in
    let effect : Effect = effect_of r.store (r.version i) i operation in
    let version : version_of (connection_at w.connections i) ≡ r.version i = ap version_of at ∙ a.versions i own at in
    let same : effect_of_words w.store (version_of (connection_at w.connections i)) i (name ∷ arguments) ≡ effect =
    ap (λ st. effect_of st (version_of (connection_at w.connections i)) i operation) a.store ∙
    ap (λ v. effect_of r.store v i operation) version in
    let left : Effect → World = λ x.
    record { connections = with_change (with_effect x) w.connections i; order = w.order ++ (i, name ∷ arguments) ∷ []; store = x.store } in
    subst (λ x. Agrees (left x) (replay_effect r i effect)) (sym same)
    (effect_agrees w r i (name ∷ arguments) effect (replies_to_words r.store (r.version i) i (name ∷ arguments)) a)

abbrev replay_command : Replay → ℕ × List (List ℕ) → Replay
replay_command r c = replay_words r c.0 c.1

-- the commands of a client of the world, one after another
commands_agree : (w : World) (r : Replay) (i : ℕ) (own : Connection) (requests : List Request) → connection_at w.connections i ≡ Some own →
    AreNamed requests → Agrees w r → Agrees (after_commands w (commands_for i requests)) (fold replay_command r (commands_for i requests))
commands_agree w r i own [] at named a = a
commands_agree w r i own (request ∷ requests) at named a =
    let words = request_words request in
    let effect : Effect = effect_of_words w.store (version_of (connection_at w.connections i)) i words in
    let there : connection_at (after_command w (i, words)).connections i ≡ Some (with_effect effect own) =
    changed_at (with_effect effect) w.connections i own at in
    commands_agree (after_command w (i, words)) (replay_words r i words) i (with_effect effect own) requests there named.1
    (command_agrees w r i own words at named.0 a)

-- a change of one connection that keeps its session's version and replies
change_agrees : (f : Connection → Connection) → ((c : Connection) → (f c).version ≡ c.version) → ((c : Connection) → sent_replies (f c) ≡ sent_replies c) →
    (w : World) (i : ℕ) (r : Replay) → Agrees w r → Agrees (world_with f w i) r
change_agrees f p q w i r a = record {
  store = a.store;
  versions = λ j c e. elim (is_changed f w.connections i j c e) as (λ _. c.version ≡ r.version j) [
    | inl h ↦ let (before, at, same) = h.1 in ap (λ (x : Connection). x.version) same ∙ p before ∙ a.versions j before at
    | inr h ↦ a.versions j c h.1
  ];
  replies = λ j c e. elim (is_changed f w.connections i j c e) as (λ _. sent_replies c ≡ r.replies j) [
    | inl h ↦ let (before, at, same) = h.1 in ap sent_replies same ∙ q before ∙ a.replies j before at
    | inr h ↦ a.replies j c h.1
  ];
}

abbrev pub IsClientOf : ℕ → ℕ × List (List ℕ) → Type 0
IsClientOf n command = (1 ≤ command.0) × (command.0 ≤ n)

abbrev ClientsOf : ℕ → List (ℕ × List (List ℕ)) → Type 0
ClientsOf n order = AllByRecursion (IsClientOf n) order

-- the number of a connection that is there
number_of : (cs : List Connection) (i : ℕ) (c : Connection) → connection_at cs i ≡ Some c → (1 ≤ i) × (i ≤ length cs)
number_of [] i c e = absurd (cc)
number_of (d ∷ cs) zero c e = absurd (cc)
number_of (d ∷ cs) (suc zero) c e = (omega arith, omega arith)
number_of (d ∷ cs) (suc (suc i)) c e = let h = number_of cs (suc i) c e in let fits = h.1 in (omega arith, omega (arith, fits))

clients_and_more : (n : ℕ) (order more : List (ℕ × List (List ℕ))) → ClientsOf n order → ClientsOf n more → ClientsOf n (order ++ more)
clients_and_more n [] more h k = k
clients_and_more n (c ∷ cs) more h k = (h.0, clients_and_more n cs more h.1 k)

clients_for : (n i : ℕ) (requests : List Request) → (1 ≤ i) × (i ≤ n) → ClientsOf n (commands_for i requests)
clients_for n i [] h = tt
clients_for n i (request ∷ requests) h = (h, clients_for n i requests h)

-- there are as many connections after commands
as_many_after : (w : World) (commands : List (ℕ × List (List ℕ))) → length (after_commands w commands).connections ≡ length w.connections
as_many_after w [] = refl
as_many_after w (c ∷ cs) = as_many_after (after_command w c) cs ∙ as_many _ w.connections c.0

-- what stands of every world of a run of this many clients
pub record Kept (n : ℕ) (w : World) : Type 0 where
  pub count : length w.connections ≡ n
  pub clients : ClientsOf n w.order
  pub agrees : Agrees w (replay_of w.order)

change_kept : (f : Connection → Connection) → ((c : Connection) → (f c).version ≡ c.version) → ((c : Connection) → sent_replies (f c) ≡ sent_replies c) →
    (n : ℕ) (w : World) (i : ℕ) → Kept n w → Kept n (world_with f w i)
change_kept f p q n w i k = record {
  count = as_many f w.connections i ∙ k.count;
  clients = k.clients;
  agrees = change_agrees f p q w i (replay_of w.order) k.agrees;
}

arrival_kept : (n : ℕ) (w : World) (i k : ℕ) (c : Option Connection) → connection_at w.connections i ≡ c → AllNamed w → Kept n w →
    Kept n (after_arrival w i k c)
arrival_kept n w i k None at named kept = kept
arrival_kept n w i k (Some own) at named kept =
    let v : World = world_with (with_arrived k) w i in
    let news = new_requests k own in
    let commands = commands_for i news in
    let there : connection_at v.connections i ≡ Some (with_arrived k own) = changed_at (with_arrived k) w.connections i own at in
    let before : Kept n v = change_kept (with_arrived k) (λ c. refl) (λ c. refl) n w i kept in
    let order : (after_commands v commands).order ≡ w.order ++ commands = after_commands-order v commands in
    let number : (1 ≤ i) × (i ≤ n) = subst (λ m. (1 ≤ i) × (i ≤ m)) kept.count (number_of w.connections i own at) in
    let agree = commands_agree v (replay_of w.order) i (with_arrived k own) news there (news_are_named k own (named i own at)) before.agrees in
    record {
      count = as_many_after v commands ∙ before.count;
      clients = subst (ClientsOf n) (sym order) (clients_and_more n w.order commands kept.clients (clients_for n i news number));
      agrees = subst (Agrees (after_commands v commands)) (sym (fold-append replay_command nothing_run w.order commands) ∙ ap replay_of (sym order)) agree;
    }

event_kept : (n : ℕ) (w : World) (event : WorldEvent) → AllNamed w → Kept n w → Kept n (after_event w event)
event_kept n w (Send i words) named k = change_kept (with_request (Command words)) (λ c. refl) (λ c. refl) n w i k
event_kept n w (Greet i asked) named k = change_kept (with_request (Hello asked)) (λ c. refl) (λ c. refl) n w i k
event_kept n w (ToServer i m) named k = arrival_kept n w i m (connection_at w.connections i) refl named k
event_kept n w (ToClient i m) named k = change_kept (with_shown m) (λ c. refl) (λ c. refl) n w i k
event_kept n w (Push i items) named k =
    change_kept (with_message (push_message items)) (λ c. refl)
    (λ c. filter-append is_reply c.messages (push_message items ∷ []) ∙ append-nil (sent_replies c)) n w i k
event_kept n w (Drop i) named k = change_kept as_dropped (λ c. refl) (λ c. refl) n w i k

step_kept : (limits : Bounds) (n : ℕ) (w : World) (event : WorldEvent) (outcome : Outcome) (next : World) → Step limits w event outcome next → AllNamed w →
    Kept n w → Kept n next
step_kept limits n w event Done next s named k = subst (Kept n) (sym s.2) (event_kept n w event named k)
step_kept limits n w event (Refused cause) next s named k = subst (Kept n) (sym s.2) k
step_kept limits n w event Gone next s named k = subst (Kept n) (sym s.1) k

run_kept : (limits : Bounds) (n : ℕ) (w : World) (events : List WorldEvent) (last : World) → Run limits w events last → AllNamed w → Kept n w →
    Kept n last
run_kept limits n w [] last r named k = subst (Kept n) (sym r) k
run_kept limits n w (event ∷ events) last r named k =
    let (outcome, next, s, t) = r in
    run_kept limits n next events last t (step_named limits w event outcome next s named) (step_kept limits n w event outcome next s named k)

as_many_new : (n : ℕ) → length (new_connections n) ≡ n
as_many_new zero = refl
as_many_new (suc n) = ap suc (as_many_new n)

new_kept : (n : ℕ) → Kept n (new_world n)
new_kept n = record {
  count = as_many_new n;
  clients = tt;
  agrees = record {
    store = refl;
    versions = λ i c e. ap (λ (x : Connection). x.version) (new_at n i c e);
    replies = λ i c e. ap sent_replies (new_at n i c e);
  };
}

pub a_run_keeps : (limits : Bounds) (n : ℕ) (events : List WorldEvent) (w : World) → Run limits (new_world n) events w → Kept n w
a_run_keeps limits n events w r = run_kept limits n (new_world n) events w r (new_named n) (new_kept n)
