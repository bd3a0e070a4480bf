-- Each request of a world has a word.
use Rattle.std.proofs.Common.{◌≡◌, inl, inr, ℕ, false, List, length, Option, None, Some, sym, subst}
use Rattle.std.proofs.lemmas.Bool.{false_from_ne_true}
use Rattle.std.specs.List.{AllByRecursion}
use Rattle.resp_value.specs.Bounds.{Bounds}
use Rattle.resp_value.specs.declared.cause.Cause.{Cause}
use Rattle.resp_value.specs.declared.cause.Cause.TheVariants.{BadCommand}
use Rattle.resp_session.specs.Requests.{Request, Hello, Command, is_unsent}
use Rattle.resp_session.specs.Connections.{Connection, arrived_requests, new_requests, push_message, with_request, with_message, with_arrived, with_shown, as_dropped}
use Rattle.resp_session.specs.Worlds.{World, WorldEvent, Send, Greet, ToServer, ToClient, Push, Drop, after_event, after_arrival, commands_for, connection_at, world_with, new_world}
use Rattle.resp_session.specs.Runs.{Outcome, Done, Refused, Gone, RefusesEvent, Step, connection_of}
use Rattle.resp_session.specs.WorldLaws.{HasName}
use Rattle.resp_session.proofs.Changes.{is_changed}
use Rattle.resp_session.proofs.Elements.{all_and_last, all_taken, all_dropped}
use Rattle.resp_session.proofs.Parts.{comes_from}
use Rattle.resp_session.proofs.SentRequests.{has_name, hello_has_name}
use Rattle.resp_session.proofs.WorldsHold.{new_at}

abbrev pub AreNamed : List Request → Type 0
AreNamed requests = AllByRecursion HasName requests

abbrev pub AllNamed : World → Type 0
AllNamed w = (i : ℕ) (c : Connection) → connection_at w.connections i ≡ Some c → AreNamed c.requests

change_named : (f : Connection → Connection) (w : World) (i : ℕ) → ((c : Connection) → AreNamed c.requests → AreNamed (f c).requests) → AllNamed w →
    AllNamed (world_with f w i)
change_named f w i keeps all j c e = elim (is_changed f w.connections i j c e) as (λ _. AreNamed c.requests) [
  | inl h ↦ let (before, at, same) = h.1 in subst (λ (x : Connection). AreNamed x.requests) (sym same) (keeps before (all j before at))
  | inr h ↦ all j c h.1
]

-- the requests that bytes bring
pub news_are_named : (k : ℕ) (c : Connection) → AreNamed c.requests → AreNamed (new_requests k c)
news_are_named k c h =
    let came : AreNamed (arrived_requests (with_arrived k c)) = all_taken HasName _ c.requests h in
    all_dropped HasName (length (arrived_requests c)) (arrived_requests (with_arrived k c)) came

arrival_named : (w : World) (i k : ℕ) (o : Option Connection) → AllNamed w → AllNamed (after_arrival w i k o)
arrival_named w i k None all j c e = all j c e
arrival_named w i k (Some own) all j c e =
    let h = comes_from (world_with (with_arrived k) w i) (commands_for i (new_requests k own)) j c e in
    subst AreNamed (sym h.requests) (change_named (with_arrived k) w i (λ d a. a) all j h.before h.at)

event_named : (limits : Bounds) (w : World) (event : WorldEvent) → ((cause : Cause) → RefusesEvent limits (connection_of w event) event cause → ⊥) →
    AllNamed w → AllNamed (after_event w event)
event_named limits w (Send i words) unrefused all =
    let sent : is_unsent words ≡ false = false_from_ne_true (is_unsent words) (λ e. unrefused BadCommand e) in
    change_named (with_request (Command words)) w i (λ c a. all_and_last HasName c.requests (Command words) a (has_name words sent)) all
event_named limits w (Greet i asked) unrefused all =
    change_named (with_request (Hello asked)) w i (λ c a. all_and_last HasName c.requests (Hello asked) a (hello_has_name asked)) all
event_named limits w (ToServer i k) unrefused all = arrival_named w i k (connection_at w.connections i) all
event_named limits w (ToClient i k) unrefused all = change_named (with_shown k) w i (λ c a. a) all
event_named limits w (Push i items) unrefused all = change_named (with_message (push_message items)) w i (λ c a. a) all
event_named limits w (Drop i) unrefused all = change_named as_dropped w i (λ c a. a) all

pub step_named : (limits : Bounds) (w : World) (event : WorldEvent) (outcome : Outcome) (next : World) → Step limits w event outcome next → AllNamed w →
    AllNamed next
step_named limits w event Done next s all = subst AllNamed (sym s.2) (event_named limits w event s.1 all)
step_named limits w event (Refused cause) next s all = subst AllNamed (sym s.2) all
step_named limits w event Gone next s all = subst AllNamed (sym s.1) all

pub new_named : (n : ℕ) → AllNamed (new_world n)
new_named n i c e = subst (λ (x : Connection). AreNamed x.requests) (sym (new_at n i c e)) tt
