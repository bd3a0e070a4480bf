-- What the clients of a world have sent: requests that fit, as spellings of commands.
use Rattle.std.proofs.Common.{◌≡◌, inl, inr, ℕ, ◌<◌, false, List, [], ◌∷◌, length, map, take, drop, Option, None, Some, refl, sym, subst, arith}
use Rattle.std.proofs.lemmas.Bool.{false_from_ne_true}
use Rattle.std.proofs.lemmas.List.{take-append-drop}
use Rattle.std.specs.List.{AllByRecursion}
use Rattle.resp_value.specs.Bounds.{Bounds, AreBounds}
use Rattle.resp_value.specs.Laws.{CanonicalTextSpellsWhatFits}
use Rattle.resp_value.specs.Spellings.{IsSpelling}
use Rattle.resp_value.specs.Words.{command_of}
use Rattle.resp_value.specs.declared.version.Version.{Version}
use Rattle.resp_value.specs.declared.version.Version.TheVariants.{Two, Three}
use Rattle.resp_value.specs.declared.cause.Cause.{Cause}
use Rattle.resp_value.specs.declared.cause.Cause.TheVariants.{TooLarge, BadCommand}
use Rattle.resp_session.specs.Answers.{server_rules}
use Rattle.resp_session.specs.AnswerLaws.{WhatComesIsWholeTexts}
use Rattle.resp_session.specs.Arrivals.{SpellEach}
use Rattle.resp_session.specs.Connections.{Connection, sent_text, new_requests, with_request, with_message, with_shown, with_arrived, push_message, as_dropped}
use Rattle.resp_session.specs.Requests.{Request, Hello, Command, HasBytes, RefusesRequest, is_unsent, is_unsent_request, request_words, request_text}
use Rattle.resp_session.specs.Runs.{Outcome, Done, Refused, Gone, Step, Run, RefusesEvent, connection_of, request_count}
use Rattle.resp_session.specs.WorldLaws.{IsPossible, HasName, request_values, WhatArrivesIsCommands}
use Rattle.resp_session.specs.Worlds.{World, WorldEvent, Send, Greet, ToServer, ToClient, Push, Drop, connection_at, world_with, after_event, after_arrival, commands_for, new_world}
use Rattle.resp_session.proofs.Changes.{is_changed}
use Rattle.resp_session.proofs.Elements.{all_and_last}
use Rattle.resp_value.proofs.CommandValues.{command_is_value}
use Rattle.resp_session.proofs.FittingWords.{words_fit}
use Rattle.resp_session.proofs.Parts.{comes_from}
use Rattle.resp_session.proofs.WorldsHold.{new_at}

-- a request that was sent: it has a word, a client sends it, and its text is a spelling of its words
abbrev pub IsSent : Bounds → Request → Type 0
IsSent limits request = HasName request × (is_unsent_request request ≡ false) ×
    IsSpelling (server_rules limits) (command_of (request_words request)) (request_text request)

abbrev pub AreSent : Bounds → Connection → Type 0
AreSent limits c = AllByRecursion (IsSent limits) c.requests

abbrev pub AllSent : Bounds → World → Type 0
AllSent limits w = (i : ℕ) (c : Connection) → connection_at w.connections i ≡ Some c → AreSent limits c

-- a change that keeps this of each connection
change_sent : (limits : Bounds) (f : Connection → Connection) (w : World) (i : ℕ) → ((c : Connection) → AreSent limits c → AreSent limits (f c)) →
    AllSent limits w →
    AllSent limits (world_with f w i)
change_sent limits f w i keeps all j c e = elim (is_changed f w.connections i j c e) as (λ _. AreSent limits c) [
  | inl h ↦ let (before, at, same) = h.1 in subst (AreSent limits) (sym same) (keeps before (all j before at))
  | inr h ↦ all j c h.1
]

arrival_sent : (limits : Bounds) (w : World) (i k : ℕ) (o : Option Connection) → AllSent limits w → AllSent limits (after_arrival w i k o)
arrival_sent limits w i k None all j c e = all j c e
arrival_sent limits w i k (Some own) all j c e =
    let h = comes_from (world_with (with_arrived k) w i) (commands_for i (new_requests k own)) j c e in
    let requests : c.requests ≡ h.before.requests = h.requests in
    subst (AllByRecursion (IsSent limits)) (sym requests) (change_sent limits (with_arrived k) w i (λ d a. a) all j h.before h.at)

-- a request that isn't refused is sent
request_is_sent : CanonicalTextSpellsWhatFits → (limits : Bounds) → AreBounds limits → (count : ℕ) (request : Request) → HasBytes request → HasName request →
    is_unsent_request request ≡ false → ((cause : Cause) → RefusesRequest limits count request cause → ⊥) → IsSent limits request
request_is_sent spells limits bounds count request bytes named sent unrefused =
    let words = request_words request in (
      named,
      sent,
      (spells (server_rules limits) (command_of words) (command_is_value words bytes)).1
          (words_fit limits words bounds (λ h. unrefused TooLarge (sent, h))),
    )

pub has_name : (words : List (List ℕ)) → is_unsent words ≡ false → 0 < length words
has_name [] e = absurd (cc)
has_name (word ∷ words) e = omega arith

pub hello_has_name : (asked : Option Version) → HasName (Hello asked)
hello_has_name None = omega arith
hello_has_name (Some version) = omega arith

hello_has_bytes : (asked : Option Version) → HasBytes (Hello asked)
hello_has_bytes None = ((omega arith, (omega arith, (omega arith, (omega arith, (omega arith, tt))))), tt)
hello_has_bytes (Some Two) = ((omega arith, (omega arith, (omega arith, (omega arith, (omega arith, tt))))), ((omega arith, tt), tt))
hello_has_bytes (Some Three) = ((omega arith, (omega arith, (omega arith, (omega arith, (omega arith, tt))))), ((omega arith, tt), tt))

-- an event that isn't refused keeps it
event_sent : CanonicalTextSpellsWhatFits → (limits : Bounds) → AreBounds limits → (w : World) (event : WorldEvent) → IsPossible event →
    ((cause : Cause) → RefusesEvent limits (connection_of w event) event cause → ⊥) → AllSent limits w → AllSent limits (after_event w event)
event_sent spells limits bounds w (Send i words) bytes unrefused all =
    let count = request_count (connection_at w.connections i) in
    let sent : is_unsent words ≡ false = false_from_ne_true (is_unsent words) (λ e. unrefused BadCommand e) in
    let one = request_is_sent spells limits bounds count (Command words) bytes (has_name words sent) sent unrefused in
    change_sent limits (with_request (Command words)) w i (λ c a. all_and_last (IsSent limits) c.requests (Command words) a one) all
event_sent spells limits bounds w (Greet i asked) bytes unrefused all =
    let count = request_count (connection_at w.connections i) in
    let one = request_is_sent spells limits bounds count (Hello asked) (hello_has_bytes asked) (hello_has_name asked) refl unrefused in
    change_sent limits (with_request (Hello asked)) w i (λ c a. all_and_last (IsSent limits) c.requests (Hello asked) a one) all
event_sent spells limits bounds w (ToServer i k) bytes unrefused all = arrival_sent limits w i k (connection_at w.connections i) all
event_sent spells limits bounds w (ToClient i k) bytes unrefused all = change_sent limits (with_shown k) w i (λ c a. a) all
event_sent spells limits bounds w (Push i items) bytes unrefused all = change_sent limits (with_message (push_message items)) w i (λ c a. a) all
event_sent spells limits bounds w (Drop i) bytes unrefused all = change_sent limits as_dropped w i (λ c a. a) all

pub step_sent : CanonicalTextSpellsWhatFits → (limits : Bounds) → AreBounds limits → (w : World) (event : WorldEvent) (outcome : Outcome) (next : World) →
    IsPossible event →
    Step limits w event outcome next → AllSent limits w → AllSent limits next
step_sent spells limits bounds w event Done next bytes s all = subst (AllSent limits) (sym s.2) (event_sent spells limits bounds w event bytes s.1 all)
step_sent spells limits bounds w event (Refused cause) next bytes s all = subst (AllSent limits) (sym s.2) all
step_sent spells limits bounds w event Gone next bytes s all = subst (AllSent limits) (sym s.1) all

pub run_sent : CanonicalTextSpellsWhatFits → (limits : Bounds) → AreBounds limits → (w : World) (events : List WorldEvent) (last : World) →
    AllByRecursion IsPossible events →
    Run limits w events last → AllSent limits w → AllSent limits last
run_sent spells limits bounds w [] last bytes r all = subst (AllSent limits) (sym r) all
run_sent spells limits bounds w (event ∷ events) last bytes r all =
    let (outcome, next, s, t) = r in
    run_sent spells limits bounds next events last bytes.1 t (step_sent spells limits bounds w event outcome next bytes.0 s all)

pub new_sent : (limits : Bounds) (n : ℕ) → AllSent limits (new_world n)
new_sent limits n i c e = subst (AreSent limits) (sym (new_at n i c e)) tt

pub names_of : (limits : Bounds) (requests : List Request) → AllByRecursion (IsSent limits) requests → AllByRecursion HasName requests
names_of limits [] h = tt
names_of limits (r ∷ rs) h = (h.0.0, names_of limits rs h.1)

pub texts_spell : (limits : Bounds) (requests : List Request) → AllByRecursion (IsSent limits) requests →
    SpellEach (server_rules limits) (map (λ (r : Request). command_of (request_words r)) requests) (map request_text requests)
texts_spell limits [] h = tt
texts_spell limits (r ∷ rs) h = (h.0.2, texts_spell limits rs h.1)

pub what_arrives_is_commands : WhatComesIsWholeTexts → CanonicalTextSpellsWhatFits → WhatArrivesIsCommands
what_arrives_is_commands comes spells limits n events w bounds bytes r i c at =
    let sent = run_sent spells limits bounds (new_world n) events w bytes r (new_sent limits n) i c at in (
      names_of limits c.requests sent,
      comes (server_rules limits) (request_values c) (map request_text c.requests) (take c.arrived (sent_text c)) (drop c.arrived (sent_text c)) bounds
          (texts_spell limits c.requests sent) (take-append-drop c.arrived (sent_text c)),
    )
