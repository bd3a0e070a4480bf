-- What a session of a world answers to what comes is what the world is left with.
use Rattle.std.proofs.Common.{◌≡◌, inl, inr, ℕ, ◌+◌, ◌≤◌, min, true, false, List, ◌++◌, length, map, take, drop, replicate, [], ◌∷◌, Some, refl, sym, ap, subst, ◌∙◌, arith, append_assoc, length-append}
use Rattle.std.proofs.Math.Seq.{take-add}
use Rattle.std.proofs.lemmas.List.{map-append, length-map, length-take-le, take-append-drop, take-map, take_min, drop-take, drop-map}
use Rattle.std.proofs.lemmas.List.Folds.{concat-append}
use Rattle.std.specs.List.{AllByRecursion, concat}
use Rattle.resp_value.specs.Bounds.{Bounds, AreBounds}
use Rattle.resp_value.specs.Laws.{ATextHasOneCut, CanonicalTextSpellsWhatFits, NoSpellingBeginsAnother}
use Rattle.resp_value.specs.Rules.{Rules}
use Rattle.resp_value.specs.Spellings.{AreSpellings, Cut}
use Rattle.resp_session.specs.Answers.{Answers, BeginsNoValue, Ends, SessionState, after_values, server_rules}
use Rattle.resp_session.specs.AnswerLaws.{ATextHasOneAnswer, WhatComesIsWholeTexts}
use Rattle.resp_session.specs.Arrivals.{HasCome}
use Rattle.resp_session.specs.Connections.{Connection, Message, arrived_requests, back_text, message_text, new_requests, sent_text, whole_within, with_arrived}
use Rattle.resp_session.specs.Requests.{Request, request_text, request_words}
use Rattle.resp_session.specs.Serving.{IsLeftBy, IsUnfinished, WhatArrivesIsAnswered, clients_in, coming, session_of}
use Rattle.resp_session.specs.WorldLaws.{HasName}
use Rattle.resp_session.specs.Worlds.{World, ToServer, after_arrival, after_command, after_commands, after_event, commands_for, connection_at, new_world, world_with}
use Rattle.resp_session.proofs.ArrivedTexts.{same_front, spell_all, whole_within-add}
use Rattle.resp_session.proofs.Changes.{as_many, changed_at, others_stay}
use Rattle.resp_session.proofs.Elements.{all_dropped, all_taken}
use Rattle.resp_session.proofs.OrdersGoOn.{after_commands-order}
use Rattle.resp_session.proofs.SentRequests.{IsSent, names_of, new_sent, run_sent, texts_spell}
use Rattle.resp_session.proofs.ServedCommands.{IsServed, command_value, served}
use Rattle.resp_session.proofs.TextsInPieces.{spellings-append}
use Rattle.resp_session.proofs.WholeTexts.{whole_within-most}
use Rattle.resp_session.proofs.WorldsHold.{arrived_then_new, new_world_holds, run_holds}

-- where a session stays open, no value begins what it hasn't answered
open_end : (r : Rules) (rest : List ℕ) (s b : SessionState) → Ends r rest s b → b.closing ≡ false → BeginsNoValue r rest
open_end r rest s b (inl w) e = w.no_more
open_end r rest s b (inr (inl f)) e = let h : b.closing ≡ true = ap (λ (z : SessionState). z.closing) f.line in absurd (cc)
open_end r rest s b (inr (inr u)) e =
    let h : b.closing ≡ s.closing = ap (λ (z : SessionState). z.closing) u.same in
    let k = u.closed in
    absurd (cc)

-- the texts of the requests that have come, and of those after them
sent_in_two : (c : Connection) (p : ℕ) → sent_text c ≡ concat (map request_text (take p c.requests)) ++ concat (map request_text (drop p c.requests))
sent_in_two c p =
    ap (λ l. concat (map request_text l)) (sym (take-append-drop p c.requests)) ∙
    ap concat (map-append request_text (take p c.requests) (drop p c.requests)) ∙
    concat-append (map request_text (take p c.requests)) (map request_text (drop p c.requests))

-- a connection to whose session bytes come: what has come of its requests, as spellings and a rest
record Coming (limits : Bounds) (c : Connection) (k : ℕ) (rest : List ℕ) : Type 0 where
  within : c.arrived ≤ length (sent_text c)
  sent : AllByRecursion (IsSent limits) c.requests
  unfinished : IsUnfinished limits c rest

abbrev old_of : Connection → List Request
old_of c = arrived_requests c

abbrev count_of : Connection → ℕ
count_of c = whole_within (map request_text c.requests) c.arrived

abbrev later_of : Connection → List Request
later_of c = drop (count_of c) c.requests

abbrev text_of : List Request → List ℕ
text_of requests = concat (map request_text requests)

values_of_requests : (limits : Bounds) (requests : List Request) → AllByRecursion (IsSent limits) requests →
    AreSpellings (server_rules limits) (map command_value requests) (text_of requests)
values_of_requests limits requests h = spell_all (server_rules limits) (map command_value requests) (map request_text requests) (texts_spell limits requests h)

-- the front of what has come is the texts of the requests that came whole, and the rest begins what is after them
fronts : NoSpellingBeginsAnother → (limits : Bounds) (c : Connection) (k : ℕ) (rest : List ℕ) (h : Coming limits c k rest) →
    (h.unfinished.front ≡ text_of (old_of c)) × (rest ++ drop c.arrived (sent_text c) ≡ text_of (later_of c))
fronts apart limits c k rest h =
    let u = h.unfinished in
    let beyond : List ℕ = drop c.arrived (sent_text c) in
    let whole : u.front ++ (rest ++ beyond) ≡ text_of (old_of c) ++ text_of (later_of c) =
    sym (append_assoc u.front rest beyond) ∙ ap (λ z. z ++ beyond) (sym u.whole) ∙ take-append-drop c.arrived (sent_text c) ∙ sent_in_two c (count_of c) in
    same_front apart (server_rules limits) (map command_value (old_of c)) u.front (text_of (old_of c)) (rest ++ beyond) (text_of (later_of c)) u.spelled
    (values_of_requests limits (old_of c) (all_taken (IsSent limits) (count_of c) c.requests h.sent)) whole

-- how many bytes have come, with those that come now
abbrev arrived_with : ℕ → Connection → ℕ
arrived_with k c = min (c.arrived + k) (length (sent_text c))

-- what has come then is what came before, and these bytes
came_on : (c : Connection) (k : ℕ) → take (arrived_with k c) (sent_text c) ≡ take c.arrived (sent_text c) ++ coming k c
came_on c k = take_min (c.arrived + k) (sent_text c) ∙ take-add c.arrived k (sent_text c)

-- as many bytes as the texts that came whole, the rest, and those that come
counted : NoSpellingBeginsAnother → (limits : Bounds) (c : Connection) (k : ℕ) (rest : List ℕ) (h : Coming limits c k rest) →
    arrived_with k c ≡ length (text_of (old_of c)) + length (rest ++ coming k c)
counted apart limits c k rest h =
    let u = h.unfinished in
    let all : List ℕ = sent_text c in
    let front : u.front ≡ text_of (old_of c) = (fronts apart limits c k rest h).0 in
    let most : arrived_with k c ≤ length all = omega arith in
    let size : length (take (arrived_with k c) all) ≡ arrived_with k c = length-take-le (arrived_with k c) all most in
    let cut : length (take (arrived_with k c) all) ≡ length (take c.arrived all) + length (coming k c) =
    ap length (came_on c k) ∙ length-append (take c.arrived all) (coming k c) in
    let came : length (take c.arrived all) ≡ length u.front + length rest = ap length u.whole ∙ length-append u.front rest in
    let fronts_same : length u.front ≡ length (text_of (old_of c)) = ap length front in
    let both : length (rest ++ coming k c) ≡ length rest + length (coming k c) = length-append rest (coming k c) in
    omega (arith, size, cut, came, fronts_same, both)

-- how many of the later requests come whole
abbrev new_count : ℕ → Connection → List ℕ → ℕ
new_count k c rest = whole_within (map request_text (later_of c)) (length (rest ++ coming k c))

new_are : NoSpellingBeginsAnother → (limits : Bounds) (c : Connection) (k : ℕ) (rest : List ℕ) (h : Coming limits c k rest) →
    new_requests k c ≡ take (new_count k c rest) (later_of c)
new_are apart limits c k rest h =
    let texts = map request_text c.requests in
    let p = count_of c in
    let few : p ≤ length texts = whole_within-most texts c.arrived in
    let fewer : p ≤ length c.requests = omega (arith, few, length-map c.requests request_text) in
    let j : ℕ = length (rest ++ coming k c) in
    let front : concat (take p texts) ≡ text_of (old_of c) = ap concat (take-map request_text p c.requests) in
    let later : drop p texts ≡ map request_text (later_of c) = drop-map request_text p c.requests in
    let whole : whole_within texts (arrived_with k c) ≡ p + new_count k c rest =
    ap (whole_within texts) (counted apart limits c k rest h ∙ ap (λ z. length z + j) (sym front)) ∙ whole_within-add texts p j few ∙
    ap (λ z. p + whole_within z j) later in
    ap (λ n. drop (length (old_of c)) (take n c.requests)) whole ∙
    ap (λ n. drop n (take (p + new_count k c rest) c.requests)) (length-take-le p c.requests fewer) ∙
    drop-take p (new_count k c rest) c.requests

-- what has come of the later requests
come : NoSpellingBeginsAnother → WhatComesIsWholeTexts → (limits : Bounds) → AreBounds limits → (c : Connection) (k : ℕ) (rest : List ℕ)
    (h : Coming limits c k rest) →
    HasCome (server_rules limits) (map command_value (later_of c)) (map request_text (later_of c)) (rest ++ coming k c)
come apart comes limits bounds c k rest h =
    let beyond : List ℕ = drop c.arrived (sent_text c) in
    let whole : (rest ++ take k beyond) ++ drop k beyond ≡ text_of (later_of c) =
    append_assoc rest (take k beyond) (drop k beyond) ∙ ap (λ z. rest ++ z) (take-append-drop k beyond) ∙ (fronts apart limits c k rest h).1 in
    comes (server_rules limits) (map command_value (later_of c)) (map request_text (later_of c)) (rest ++ coming k c) (drop k beyond) bounds
    (texts_spell limits (later_of c) (all_dropped (IsSent limits) (count_of c) c.requests h.sent)) whole

-- the requests that come whole now
abbrev news_of : ℕ → Connection → List ℕ → List Request
news_of k c rest = take (new_count k c rest) (later_of c)

-- the world that the bytes come to, and the one that the new requests leave
abbrev world_of : World → ℕ → ℕ → World
world_of w i k = world_with (with_arrived k) w i

-- the requests that come whole are served
news_served : (limits : Bounds) (w : World) (i k : ℕ) (c : Connection) (requests : List Request) → connection_at w.connections i ≡ Some c →
    AllByRecursion HasName requests →
    IsServed i requests (session_of w c) (after_values i (session_of w c) (map command_value requests)) (world_of w i k)
    (after_commands (world_of w i k) (commands_for i requests)) (with_arrived k c)
news_served limits w i k c requests at named =
    served i requests named (session_of w c) (world_of w i k) (with_arrived k c) (record {
      at = changed_at (with_arrived k) w.connections i c at;
      store = refl;
      version = refl;
      is_open = refl;
    })

-- what has come of the later requests is spellings of those that came whole
news_spelled : (limits : Bounds) (k : ℕ) (c : Connection) (rest : List ℕ) →
    (h : HasCome (server_rules limits) (map command_value (later_of c)) (map request_text (later_of c)) (rest ++ coming k c)) →
    AreSpellings (server_rules limits) (map command_value (news_of k c rest)) h.front
news_spelled limits k c rest h =
    subst (λ l. AreSpellings (server_rules limits) l h.front) (take-map command_value (new_count k c rest) (later_of c)) h.spelled

-- the session answers these requests, and waits for the rest
news_answered : (limits : Bounds) (w : World) (i k : ℕ) (c : Connection) (rest : List ℕ) →
    (h : HasCome (server_rules limits) (map command_value (later_of c)) (map request_text (later_of c)) (rest ++ coming k c)) →
    (after_values i (session_of w c) (map command_value (news_of k c rest))).closing ≡ false →
    Answers limits i (session_of w c) (rest ++ coming k c) (after_values i (session_of w c) (map command_value (news_of k c rest))) h.rest
news_answered limits w i k c rest h is_open = record {
  values = map command_value (news_of k c rest);
  front = h.front;
  spelled = news_spelled limits k c rest h;
  whole = h.whole;
  ends = inl (record { is_open = is_open; no_more = h.no_more; viable = h.viable; same = refl });
}

-- what a connection's texts are hangs on its requests, and on its messages
back_on : (c : Connection) (messages more : List Message) → messages ≡ c.messages ++ more →
    concat (map message_text messages) ≡ back_text c ++ concat (map message_text more)
back_on c messages more e =
    ap (λ l. concat (map message_text l)) e ∙ ap concat (map-append message_text c.messages more) ∙
    concat-append (map message_text c.messages) (map message_text more)

abbrev arrived_of : List Request → ℕ → List Request
arrived_of requests arrived = take (whole_within (map request_text requests) arrived) requests

-- the session's rest is what of a request has come after those that came whole
still_unfinished : (limits : Bounds) (c next : Connection) (k : ℕ) (rest rest' front : List ℕ) (values : List Request) → Coming limits c k rest →
    next.requests ≡ c.requests → next.arrived ≡ arrived_with k c → new_requests k c ≡ values →
    AreSpellings (server_rules limits) (map command_value values) front → rest ++ coming k c ≡ front ++ rest' → IsUnfinished limits next rest'
still_unfinished limits c next k rest rest' front values h requested arrived news spelled whole =
    let u = h.unfinished in
    let now : arrived_requests next ≡ old_of c ++ values =
    ap (λ l. arrived_of l next.arrived) requested ∙ ap (arrived_of c.requests) arrived ∙ sym (arrived_then_new k c h.within) ∙ ap (λ l. old_of c ++ l) news in
    let all : map command_value (arrived_requests next) ≡ map command_value (old_of c) ++ map command_value values =
    ap (map command_value) now ∙ map-append command_value (old_of c) values in
    let text : sent_text next ≡ sent_text c = ap (λ l. concat (map request_text l)) requested in
    record {
      front = u.front ++ front;
      spelled = subst (λ l. AreSpellings (server_rules limits) l (u.front ++ front)) (sym all)
          (spellings-append (server_rules limits) (map command_value (old_of c)) (map command_value values) u.front front u.spelled spelled);
      whole = ap (λ n. take n (sent_text next)) arrived ∙ ap (take (arrived_with k c)) text ∙ came_on c k ∙ ap (λ z. z ++ coming k c) u.whole ∙
          append_assoc u.front rest (coming k c) ∙ ap (λ z. u.front ++ z) whole ∙ sym (append_assoc u.front front rest');
    }

-- commands of one client leave the other connections as they are
others_left : (i j : ℕ) (requests : List Request) (w : World) → (j ≡ i → ⊥) →
    connection_at (after_commands w (commands_for i requests)).connections j ≡ connection_at w.connections j
others_left i j [] w other = refl
others_left i j (request ∷ requests) w other =
    others_left i j requests (after_command w (i, request_words request)) other ∙ others_stay _ w.connections i j other

as_many_left : (i : ℕ) (requests : List Request) (w : World) →
    length (after_commands w (commands_for i requests)).connections ≡ length w.connections
as_many_left i [] w = refl
as_many_left i (request ∷ requests) w = as_many_left i requests (after_command w (i, request_words request)) ∙ as_many _ w.connections i

-- the order then names the client once for each of them
its_commands : (i : ℕ) (requests : List Request) →
    map (λ (command : ℕ × List (List ℕ)). command.0) (commands_for i requests) ≡ replicate (length requests) i
its_commands i [] = refl
its_commands i (request ∷ requests) = ap (λ l. i ∷ l) (its_commands i requests)

order_left : (i : ℕ) (requests : List Request) (w : World) →
    clients_in (after_commands w (commands_for i requests)) ≡ clients_in w ++ replicate (length requests) i
order_left i requests w =
    ap (map (λ (command : ℕ × List (List ℕ)). command.0)) (after_commands-order w (commands_for i requests)) ∙
    map-append (λ (command : ℕ × List (List ℕ)). command.0) w.order (commands_for i requests) ∙
    ap (λ l. clients_in w ++ l) (its_commands i requests)

-- what is answered is what the world is left with, which the new requests leave
left : (limits : Bounds) (w : World) (i k : ℕ) (c : Connection) (rest rest' front : List ℕ) (requests : List Request) (after : SessionState) →
    Coming limits c k rest → new_requests k c ≡ requests →
    AreSpellings (server_rules limits) (map command_value requests) front → rest ++ coming k c ≡ front ++ rest' →
    after ≡ after_values i (session_of w c) (map command_value requests) →
    IsServed i requests (session_of w c) (after_values i (session_of w c) (map command_value requests)) (world_of w i k)
    (after_commands (world_of w i k) (commands_for i requests)) (with_arrived k c) →
    IsLeftBy limits i k w (after_commands (world_of w i k) (commands_for i requests)) c after rest'
left limits w i k c rest rest' front requests after h news spelled whole same v =
    let counted : after.count ≡ 0 + length requests = ap (λ (z : SessionState). z.count) same ∙ v.count in
    let run : length requests ≡ after.count = omega (arith, counted) in
    record {
      next = v.next;
      there = v.stands.at;
      client = record { requests = v.client.requests; shown = v.client.shown; dropped = v.client.dropped };
      arrived = v.arrived;
      unfinished = still_unfinished limits c v.next k rest rest' front requests h v.client.requests v.arrived news spelled whole;
      store = ap (λ (z : SessionState). z.store) same ∙ v.stands.store;
      version = ap (λ (z : SessionState). z.version) same ∙ v.stands.version;
      text = back_on c v.next.messages v.messages v.sent ∙ ap (λ z. back_text c ++ z) (sym (ap (λ (z : SessionState). z.text) same ∙ v.text));
      is_open = ap (λ (z : SessionState). z.closing) same ∙ v.stands.is_open;
      order = order_left i requests (world_of w i k) ∙ ap (λ n. clients_in w ++ replicate n i) run;
      others = λ j other. others_left i j requests (world_of w i k) other ∙ others_stay (with_arrived k) w.connections i j other;
      same_count = as_many_left i requests (world_of w i k) ∙ as_many (with_arrived k) w.connections i;
    }

answered : NoSpellingBeginsAnother → ATextHasOneCut → WhatComesIsWholeTexts → ATextHasOneAnswer → (limits : Bounds) → AreBounds limits →
    (w : World) (i k : ℕ) (c : Connection) (rest rest' : List ℕ) (after : SessionState) → connection_at w.connections i ≡ Some c → Coming limits c k rest →
    Answers limits i (session_of w c) (rest ++ coming k c) after rest' →
    IsLeftBy limits i k w (after_commands (world_of w i k) (commands_for i (news_of k c rest))) c after rest'
answered apart one_cut comes one limits bounds w i k c rest rest' after at h m =
    let r = server_rules limits in
    let came = come apart comes limits bounds c k rest h in
    let later = all_dropped (IsSent limits) (count_of c) c.requests h.sent in
    let named = names_of limits (news_of k c rest) (all_taken (IsSent limits) (new_count k c rest) (later_of c) later) in
    let v = news_served limits w i k c (news_of k c rest) at named in
    let spelled = news_spelled limits k c rest came in
    let n = news_answered limits w i k c rest came v.stands.is_open in
    let same : after ≡ after_values i (session_of w c) (map command_value (news_of k c rest)) =
    one limits i (session_of w c) after (after_values i (session_of w c) (map command_value (news_of k c rest))) (rest ++ coming k c) rest' came.rest m n in
    let is_open : after.closing ≡ false = ap (λ (z : SessionState). z.closing) same ∙ v.stands.is_open in
    let mine : Cut r (rest ++ coming k c) m.values rest' = record {
      front = m.front;
      spelled = m.spelled;
      whole = m.whole;
      no_more = open_end r rest' (after_values i (session_of w c) m.values) after m.ends is_open;
    } in
    let theirs : Cut r (rest ++ coming k c) (map command_value (news_of k c rest)) came.rest = record {
      front = came.front;
      spelled = spelled;
      whole = came.whole;
      no_more = came.no_more;
    } in
    let cuts = one_cut r (rest ++ coming k c) m.values (map command_value (news_of k c rest)) rest' came.rest mine theirs in
    left limits w i k c rest rest' came.front (news_of k c rest) after h (new_are apart limits c k rest h) spelled
    (came.whole ∙ ap (λ z. came.front ++ z) (sym cuts.1)) same v

pub what_arrives_is_answered : NoSpellingBeginsAnother → ATextHasOneCut → WhatComesIsWholeTexts → ATextHasOneAnswer → CanonicalTextSpellsWhatFits →
    WhatArrivesIsAnswered
what_arrives_is_answered apart one_cut comes one spells limits n events w bounds bytes r i k c at rest rest' after unfinished m =
    let sent = run_sent spells limits bounds (new_world n) events w bytes r (new_sent limits n) i c at in
    let held = run_holds limits (new_world n) events w r (new_world_holds n) i c at in
    let h : Coming limits c k rest = record { within = held.within; sent = sent; unfinished = unfinished } in
    let l = answered apart one_cut comes one limits bounds w i k c rest rest' after at h m in
    let news : news_of k c rest ≡ new_requests k c = sym (new_are apart limits c k rest h) in
    let now : after_commands (world_of w i k) (commands_for i (news_of k c rest)) ≡ after_event w (ToServer i k) =
    ap (λ l. after_commands (world_of w i k) (commands_for i l)) news ∙ sym (ap (after_arrival w i k) at) in
    subst (λ left. IsLeftBy limits i k w left c after rest') now l
