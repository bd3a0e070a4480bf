-- What stands of every world of a run.
use Rattle.std.proofs.Common.{◌≡◌, inl, inr, ℕ, zero, suc, ◌+◌, ◌≤◌, min, List, [], ◌∷◌, ◌++◌, length, map, take, drop, Option, None, Some, refl, sym, ap, subst, ◌∙◌, arith, append-nil, length-append}
use Rattle.std.proofs.lemmas.List.{map-append, length-map, length-take-le, take-append-le, take-append-drop}
use Rattle.std.specs.List.{concat}
use Rattle.resp_value.specs.Bounds.{Bounds}
use Rattle.resp_session.specs.Requests.{Request, Hello, Command, request_words, request_text}
use Rattle.resp_session.specs.Connections.{Connection, new_connection, whole_within, sent_text, arrived_requests, new_requests, with_arrived}
use Rattle.resp_session.specs.Worlds.{World, WorldEvent, Send, Greet, ToServer, ToClient, Push, Drop, connection_at, world_with, after_event, after_arrival, commands_for, new_connections, new_world}
use Rattle.resp_session.specs.Runs.{Outcome, Done, Refused, Gone, Step, Run}
use Rattle.resp_session.specs.Orders.{part_of_client, sent_replies}
use Rattle.resp_session.proofs.OrdersGoOn.{after_commands-order}
use Rattle.resp_session.proofs.WholeTexts.{whole_within-most, whole_within-grows}
use Rattle.resp_session.proofs.Changes.{IsChanged, is_changed}
use Rattle.resp_session.proofs.Parts.{Holds, AllHold, ComesFrom, change_holds, request_holds, push_holds, part_of_client-append, own_commands, other_commands, comes_from}

-- fewer of a list are a beginning of more of it
fewer_then_more : {X : Type 0} (n m : ℕ) (xs : List X) → n ≤ m → m ≤ length xs → take n xs ++ drop (length (take n xs)) (take m xs) ≡ take m xs
fewer_then_more n m xs h k =
    let size : length (take m xs) ≡ m = length-take-le m xs k in
    let fits : n ≤ length (take m xs) = omega (arith, size, h) in
    let few : n ≤ length xs = omega (arith, h, k) in
    let same : take n xs ≡ take n (take m xs) =
    ap (take n) (sym (take-append-drop m xs)) ∙ take-append-le n (take m xs) (drop m xs) fits in
    ap (λ i. take n xs ++ drop i (take m xs)) (length-take-le n xs few) ∙ ap (λ l. l ++ drop n (take m xs)) same ∙ take-append-drop n (take m xs)

-- the requests that have come, and then those that this many bytes more bring
pub arrived_then_new : (k : ℕ) (c : Connection) → c.arrived ≤ length (sent_text c) →
    arrived_requests c ++ new_requests k c ≡ arrived_requests (with_arrived k c)
arrived_then_new k c h =
    let texts = map request_text c.requests in
    let n : ℕ = min (c.arrived + k) (length (sent_text c)) in
    let later : c.arrived ≤ n = omega (arith, h) in
    let most : whole_within texts n ≤ length c.requests = omega (arith, whole_within-most texts n, length-map c.requests request_text) in
    fewer_then_more (whole_within texts c.arrived) (whole_within texts n) c.requests (whole_within-grows texts c.arrived n later) most

abbrev pub arrived_of : List Request → ℕ → List Request
arrived_of requests arrived = take (whole_within (map request_text requests) arrived) requests

pub one_connection : (x y : Connection) (o : Option Connection) → o ≡ Some x → o ≡ Some y → y ≡ x
one_connection x y o e f = let g : Some y ≡ Some x = sym f ∙ e in cc

-- a connection after commands that have arrived on another one, or on this one
arrival_on : (w : World) (i k : ℕ) (own : Connection) → connection_at w.connections i ≡ Some own → AllHold w → (j : ℕ) (c : Connection)
    (h : ComesFrom (world_with (with_arrived k) w i) (commands_for i (new_requests k own)) j c) → IsChanged (with_arrived k) w.connections i j h.before →
    Holds j c (w.order ++ commands_for i (new_requests k own))
arrival_on w i k own at all j c h (inl (e, (before, there, same))) =
    let mine : before ≡ own = one_connection own before (connection_at w.connections i) at (ap (connection_at w.connections) e ∙ there) in
    let old = all j before there in
    let news = new_requests k own in
    let cs = commands_for i news in
    let part_news : part_of_client j cs ≡ map request_words news = ap (λ x. part_of_client x cs) (sym e) ∙ own_commands i news in
    let both : part_of_client j (w.order ++ cs) ≡ map request_words (arrived_requests before) ++ map request_words news =
    part_of_client-append j w.order cs ∙ ap (λ l. l ++ part_of_client j cs) old.part ∙ ap (λ l. map request_words (arrived_requests before) ++ l) part_news in
    let grown : arrived_requests before ++ news ≡ arrived_requests (with_arrived k before) =
    ap (λ x. arrived_requests before ++ new_requests k x) (sym mine) ∙ arrived_then_new k before old.within in
    let requests : c.requests ≡ before.requests = h.requests ∙ ap (λ (x : Connection). x.requests) same in
    let arrived : c.arrived ≡ min (before.arrived + k) (length (sent_text before)) = h.arrived ∙ ap (λ (x : Connection). x.arrived) same in
    let now : arrived_requests (with_arrived k before) ≡ arrived_requests c =
    sym (ap (λ l. arrived_of l c.arrived) requests ∙ ap (arrived_of before.requests) arrived) in
    let size : length (sent_text c) ≡ length (sent_text before) = ap (λ l. length (concat (map request_text l))) requests in
    let replied : length (sent_replies h.before) ≡ length (sent_replies before) = ap (λ x. length (sent_replies x)) same in
    let counted : length (part_of_client j (w.order ++ cs)) ≡ length (part_of_client j w.order) + length (part_of_client j cs) =
    ap length (part_of_client-append j w.order cs) ∙ length-append (part_of_client j w.order) (part_of_client j cs) in
    let r = h.replies in
    let q = old.replies in
    record {
      part = both ∙ sym (map-append request_words (arrived_requests before) news) ∙ ap (map request_words) (grown ∙ now);
      within = omega (arith, arrived, size);
      replies = omega (arith, r, q, replied, counted);
    }
arrival_on w i k own at all j c h (inr (e, there)) =
    let old = all j h.before there in
    let cs = commands_for i (new_requests k own) in
    let none : part_of_client j cs ≡ [] = other_commands i j (new_requests k own) e in
    let same : part_of_client j (w.order ++ cs) ≡ part_of_client j w.order =
    part_of_client-append j w.order cs ∙ ap (λ l. part_of_client j w.order ++ l) none ∙ append-nil (part_of_client j w.order) in
    let requests : c.requests ≡ h.before.requests = h.requests in
    let arrived : c.arrived ≡ h.before.arrived = h.arrived in
    let now : arrived_requests h.before ≡ arrived_requests c =
    sym (ap (λ l. arrived_of l c.arrived) requests ∙ ap (arrived_of h.before.requests) arrived) in
    let size : length (sent_text c) ≡ length (sent_text h.before) = ap (λ l. length (concat (map request_text l))) requests in
    let w0 = old.within in
    let r : length (sent_replies c) ≡ length (sent_replies h.before) + 0 = h.replies ∙ ap (λ l. length (sent_replies h.before) + length l) none in
    let q = old.replies in
    record {
      part = same ∙ old.part ∙ ap (map request_words) now;
      within = omega (arith, arrived, size, w0);
      replies = omega (arith, r, q, ap length same);
    }

arrival_holds : (w : World) (i k : ℕ) (o : Option Connection) → connection_at w.connections i ≡ o → AllHold w → AllHold (after_arrival w i k o)
arrival_holds w i k None at all j c e = all j c e
arrival_holds w i k (Some own) at all j c e =
    let cs = commands_for i (new_requests k own) in
    let w1 : World = world_with (with_arrived k) w i in
    let h = comes_from w1 cs j c e in
    subst (Holds j c) (sym (after_commands-order w1 cs)) (arrival_on w i k own at all j c h (is_changed (with_arrived k) w.connections i j h.before h.at))

event_holds : (w : World) (event : WorldEvent) → AllHold w → AllHold (after_event w event)
event_holds w (Send i words) all = change_holds _ w i (request_holds (Command words) w.order) all
event_holds w (Greet i asked) all = change_holds _ w i (request_holds (Hello asked) w.order) all
event_holds w (ToServer i k) all = arrival_holds w i k (connection_at w.connections i) refl all
event_holds w (ToClient i k) all = change_holds _ w i (λ j c h. record { part = h.part; within = h.within; replies = h.replies }) all
event_holds w (Push i items) all = change_holds _ w i (push_holds items w.order) all
event_holds w (Drop i) all = change_holds _ w i (λ j c h. record { part = h.part; within = h.within; replies = h.replies }) all

pub step_holds : (limits : Bounds) (w : World) (event : WorldEvent) (outcome : Outcome) (next : World) → Step limits w event outcome next → AllHold w →
    AllHold next
step_holds limits w event Done next s all = subst AllHold (sym s.2) (event_holds w event all)
step_holds limits w event (Refused cause) next s all = subst AllHold (sym s.2) all
step_holds limits w event Gone next s all = subst AllHold (sym s.1) all

-- it stands after events where it stood before them
pub run_holds : (limits : Bounds) (w : World) (events : List WorldEvent) (last : World) → Run limits w events last → AllHold w → AllHold last
run_holds limits w [] last r all = subst AllHold (sym r) all
run_holds limits w (event ∷ events) last r all =
    let (outcome, next, s, t) = r in
    run_holds limits next events last t (step_holds limits w event outcome next s all)

-- nothing was sent on any connection at the start
pub new_at : (n i : ℕ) (c : Connection) → connection_at (new_connections n) i ≡ Some c → c ≡ new_connection
new_at zero i c e = absurd (cc)
new_at (suc n) zero c e = absurd (cc)
new_at (suc n) (suc zero) c e = cc
new_at (suc n) (suc (suc i)) c e = new_at n (suc i) c e

pub new_world_holds : (n : ℕ) → AllHold (new_world n)
new_world_holds n i c e = subst (λ x. Holds i x []) (sym (new_at n i c e)) (record { part = refl; within = omega arith; replies = refl })
