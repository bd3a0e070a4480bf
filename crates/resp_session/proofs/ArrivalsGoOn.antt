-- Bytes that come in two parts.
use Rattle.std.proofs.Common.{◌≡◌, ℕ, zero, suc, ◌+◌, ◌≤◌, min, List, [], ◌∷◌, ◌++◌, length, map, take, drop, Option, None, Some, refl, sym, ap, ◌∙◌, arith, append_assoc}
use Rattle.std.proofs.lemmas.List.{append_cancel_left, map-append}
use Rattle.std.proofs.lemmas.List.Sums.{fold-append}
use Rattle.std.specs.List.{concat}
use Rattle.resp_session.specs.Connections.{Connection, arrived_requests, back_text, new_requests, sent_text, whole_within, with_arrived, with_effect, with_shown}
use Rattle.resp_session.specs.Requests.{Request, request_text, request_words}
use Rattle.resp_session.specs.Serving.{ArrivalsGoOn}
use Rattle.resp_session.specs.Stores.{Effect, effect_of_words}
use Rattle.resp_session.specs.Worlds.{World, ToServer, after_arrival, after_command, after_commands, after_event, commands_for, connection_at, version_of, with_change, world_with, new_world}
use Rattle.resp_session.proofs.Changes.{changed_at}
use Rattle.resp_session.proofs.WorldsHold.{arrived_then_new, new_world_holds, run_holds}

-- two changes of one connection are one
both_changes : (f g h : Connection → Connection) → ((c : Connection) → g (f c) ≡ h c) → (cs : List Connection) (i : ℕ) →
    with_change g (with_change f cs i) i ≡ with_change h cs i
both_changes f g h e [] i = refl
both_changes f g h e (c ∷ cs) zero = refl
both_changes f g h e (c ∷ cs) (suc zero) = ap (λ x. x ∷ cs) (e c)
both_changes f g h e (c ∷ cs) (suc (suc i)) = ap (λ l. c ∷ l) (both_changes f g h e cs (suc i))

-- changes that don't hang on one another
either_first : (f g : Connection → Connection) → ((c : Connection) → g (f c) ≡ f (g c)) → (cs : List Connection) (i j : ℕ) →
    with_change g (with_change f cs i) j ≡ with_change f (with_change g cs j) i
either_first f g e [] i j = refl
either_first f g e (c ∷ cs) zero zero = refl
either_first f g e (c ∷ cs) zero (suc zero) = refl
either_first f g e (c ∷ cs) zero (suc (suc j)) = refl
either_first f g e (c ∷ cs) (suc zero) zero = refl
either_first f g e (c ∷ cs) (suc zero) (suc zero) = ap (λ x. x ∷ cs) (e c)
either_first f g e (c ∷ cs) (suc zero) (suc (suc j)) = refl
either_first f g e (c ∷ cs) (suc (suc i)) zero = refl
either_first f g e (c ∷ cs) (suc (suc i)) (suc zero) = refl
either_first f g e (c ∷ cs) (suc (suc i)) (suc (suc j)) = ap (λ l. c ∷ l) (either_first f g e cs (suc i) (suc j))

-- bytes that come change no version
same_version : (k : ℕ) (cs : List Connection) (i j : ℕ) → version_of (connection_at (with_change (with_arrived k) cs i) j) ≡ version_of (connection_at cs j)
same_version k [] i j = refl
same_version k (c ∷ cs) zero j = refl
same_version k (c ∷ cs) (suc zero) zero = refl
same_version k (c ∷ cs) (suc zero) (suc zero) = refl
same_version k (c ∷ cs) (suc zero) (suc (suc j)) = refl
same_version k (c ∷ cs) (suc (suc i)) zero = refl
same_version k (c ∷ cs) (suc (suc i)) (suc zero) = refl
same_version k (c ∷ cs) (suc (suc i)) (suc (suc j)) = same_version k cs (suc i) (suc j)

abbrev left_by : Effect → List Connection → World → ℕ × List (List ℕ) → World
left_by effect connections w command = record {
  connections = with_change (with_effect effect) connections command.0;
  order = w.order ++ command ∷ [];
  store = effect.store;
}

-- bytes that come and a command, in either order
command_first : (k i : ℕ) (w : World) (command : ℕ × List (List ℕ)) →
    after_command (world_with (with_arrived k) w i) command ≡ world_with (with_arrived k) (after_command w command) i
command_first k i w command =
    let effect : Effect = effect_of_words w.store (version_of (connection_at w.connections command.0)) command.0 command.1 in
    ap (λ v. left_by (effect_of_words w.store v command.0 command.1) (with_change (with_arrived k) w.connections i) w command)
    (same_version k w.connections i command.0) ∙
    ap (λ l. record { connections = l; order = w.order ++ command ∷ []; store = effect.store })
    (either_first (with_arrived k) (with_effect effect) (λ c. refl) w.connections i command.0)

commands_first : (k i : ℕ) (w : World) (commands : List (ℕ × List (List ℕ))) →
    after_commands (world_with (with_arrived k) w i) commands ≡ world_with (with_arrived k) (after_commands w commands) i
commands_first k i w [] = refl
commands_first k i w (command ∷ commands) =
    ap (λ v. after_commands v commands) (command_first k i w command) ∙ commands_first k i (after_command w command) commands

-- a connection after commands: the same requests, of which as much has come
record Asked (c d : Connection) : Type 0 where
  requests : d.requests ≡ c.requests
  arrived : d.arrived ≡ c.arrived

one_asked : (w : World) (command : ℕ × List (List ℕ)) (cs : List Connection) (effect : Effect) (i j : ℕ) (c : Connection) → connection_at cs i ≡ Some c →
    (d : Connection) × (connection_at (with_change (with_effect effect) cs j) i ≡ Some d) × Asked c d
one_asked w command [] effect i j c e = absurd (cc)
one_asked w command (x ∷ cs) effect zero j c e = absurd (cc)
one_asked w command (x ∷ cs) effect (suc zero) zero c e = (c, e, record { requests = refl; arrived = refl })
one_asked w command (x ∷ cs) effect (suc zero) (suc zero) c e =
    let h : x ≡ c = cc in
    (with_effect effect c, ap (λ y. Some (with_effect effect y)) h, record { requests = refl; arrived = refl })
one_asked w command (x ∷ cs) effect (suc zero) (suc (suc j)) c e = (c, e, record { requests = refl; arrived = refl })
one_asked w command (x ∷ cs) effect (suc (suc i)) zero c e = (c, e, record { requests = refl; arrived = refl })
one_asked w command (x ∷ cs) effect (suc (suc i)) (suc zero) c e = (c, e, record { requests = refl; arrived = refl })
one_asked w command (x ∷ cs) effect (suc (suc i)) (suc (suc j)) c e = one_asked w command cs effect (suc i) (suc j) c e

all_asked : (w : World) (commands : List (ℕ × List (List ℕ))) (i : ℕ) (c : Connection) → connection_at w.connections i ≡ Some c →
    (d : Connection) × (connection_at (after_commands w commands).connections i ≡ Some d) × Asked c d
all_asked w [] i c e = (c, e, record { requests = refl; arrived = refl })
all_asked w (command ∷ commands) i c e =
    let effect : Effect = effect_of_words w.store (version_of (connection_at w.connections command.0)) command.0 command.1 in
    let (d, there, a) = one_asked w command w.connections effect i command.0 c e in
    let (x, then, b) = all_asked (after_command w command) commands i d there in
    (x, then, record { requests = b.requests ∙ a.requests; arrived = b.arrived ∙ a.arrived })

-- this many bytes more, and then this many
arrived_twice : (j k : ℕ) (c : Connection) → with_arrived k (with_arrived j c) ≡ with_arrived (j + k) c
arrived_twice j k c =
    let all : ℕ = length (sent_text c) in
    let same : min (min (c.arrived + j) all + k) all ≡ min (c.arrived + (j + k)) all = omega arith in
    ap (λ n. record c { arrived = n }) same

shown_twice : (j k : ℕ) (c : Connection) → with_shown k (with_shown j c) ≡ with_shown (j + k) c
shown_twice j k c =
    let all : ℕ = length (back_text c) in
    let same : min (min (c.shown + j) all + k) all ≡ min (c.shown + (j + k)) all = omega arith in
    ap (λ n. record c { shown = n }) same

-- the requests that come with the first bytes, and then those that come with the others
news_twice : (j k : ℕ) (c : Connection) → c.arrived ≤ length (sent_text c) →
    new_requests j c ++ new_requests k (with_arrived j c) ≡ new_requests (j + k) c
news_twice j k c within =
    let next : Connection = with_arrived j c in
    let still : next.arrived ≤ length (sent_text next) = omega arith in
    let whole : arrived_requests c ++ (new_requests j c ++ new_requests k next) ≡ arrived_requests c ++ new_requests (j + k) c =
    sym (append_assoc (arrived_requests c) (new_requests j c) (new_requests k next)) ∙ ap (λ l. l ++ new_requests k next) (arrived_then_new j c within) ∙
    arrived_then_new k next still ∙ ap arrived_requests (arrived_twice j k c) ∙ sym (arrived_then_new (j + k) c within) in
    append_cancel_left (arrived_requests c) (new_requests j c ++ new_requests k next) (new_requests (j + k) c) whole

-- the requests that the second bytes bring, of these requests and after this much of them
abbrev second_news : ℕ → ℕ → List Request → ℕ → List Request
second_news j k requests arrived =
    let all : ℕ = length (concat (map request_text requests)) in
    let next : ℕ = min (arrived + j) all in
    let texts = map request_text requests in
    drop (length (take (whole_within texts next) requests)) (take (whole_within texts (min (next + k) all)) requests)

-- at the connection's session: the commands of the first bytes run before the others come, or after them
at_session : (w : World) (i j k : ℕ) (c : Connection) → connection_at w.connections i ≡ Some c → c.arrived ≤ length (sent_text c) →
    after_event (after_event w (ToServer i j)) (ToServer i k) ≡ after_event w (ToServer i (j + k))
at_session w i j k c e within =
    let first = commands_for i (new_requests j c) in
    let v : World = after_commands w first in
    let w1 : World = world_with (with_arrived j) v i in
    let one : after_event w (ToServer i j) ≡ w1 = ap (after_arrival w i j) e ∙ commands_first j i w first in
    let (d, there, asked) = all_asked w first i c e in
    let at : connection_at w1.connections i ≡ Some (with_arrived j d) = changed_at (with_arrived j) v.connections i d there in
    let same : new_requests k (with_arrived j d) ≡ new_requests k (with_arrived j c) =
    ap (λ l. second_news j k l d.arrived) asked.requests ∙ ap (second_news j k c.requests) asked.arrived in
    let second = commands_for i (new_requests k (with_arrived j c)) in
    let whole : World = world_with (with_arrived (j + k)) w i in
    let two : after_event w1 (ToServer i k) ≡ after_commands (world_with (with_arrived k) w1 i) second =
    ap (after_arrival w1 i k) at ∙ ap (λ l. after_commands (world_with (with_arrived k) w1 i) (commands_for i l)) same in
    let both : world_with (with_arrived k) w1 i ≡ after_commands whole first =
    ap (λ l. record { connections = l; order = v.order; store = v.store })
    (both_changes (with_arrived j) (with_arrived k) (with_arrived (j + k)) (arrived_twice j k) v.connections i) ∙
    sym (commands_first (j + k) i w first) in
    let commands : first ++ second ≡ commands_for i (new_requests (j + k) c) =
    sym (map-append (λ (request : Request). (i, request_words request)) (new_requests j c) (new_requests k (with_arrived j c))) ∙
    ap (commands_for i) (news_twice j k c within) in
    ap (λ x. after_event x (ToServer i k)) one ∙ two ∙ ap (λ x. after_commands x second) both ∙ sym (fold-append after_command whole first second) ∙
    ap (after_commands whole) commands ∙ sym (ap (after_arrival w i (j + k)) e)

-- where no connection has this number nothing changes
server_twice : (w : World) (i j k : ℕ) (o : Option Connection) → connection_at w.connections i ≡ o →
    ((c : Connection) → o ≡ Some c → c.arrived ≤ length (sent_text c)) →
    after_event (after_event w (ToServer i j)) (ToServer i k) ≡ after_event w (ToServer i (j + k))
server_twice w i j k None e within =
    let one : after_event w (ToServer i j) ≡ w = ap (after_arrival w i j) e in
    ap (λ v. after_event v (ToServer i k)) one ∙ ap (after_arrival w i k) e ∙ sym (ap (after_arrival w i (j + k)) e)
server_twice w i j k (Some c) e within = at_session w i j k c e (within c refl)

pub arrivals_go_on : ArrivalsGoOn
arrivals_go_on limits n events w r i j k = (
  server_twice w i j k (connection_at w.connections i) refl (λ c at. (run_holds limits (new_world n) events w r (new_world_holds n) i c at).within),
  ap (λ l. record { connections = l; order = w.order; store = w.store })
      (both_changes (with_shown j) (with_shown k) (with_shown (j + k)) (shown_twice j k) w.connections i),
)
