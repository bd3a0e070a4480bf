-- What the sessions of a world have written is what their clients read.
use Rattle.std.proofs.Common.{◌≡◌, inl, inr, ℕ, ◌+◌, min, false, List, [], ◌∷◌, ◌++◌, length, map, Option, None, Some, refl, sym, ap, subst, ◌∙◌, append_assoc, append-nil}
use Rattle.std.proofs.lemmas.Bool.{cases_eq}
use Rattle.std.proofs.lemmas.List.{map-append, take-append-drop}
use Rattle.std.specs.List.{AllByRecursion}
use Rattle.resp_value.specs.Bounds.{Bounds, AreBounds}
use Rattle.resp_value.specs.Laws.{CanonicalTextSpellsWhatFits, VersionThreeSpellsWhatTwoDoes}
use Rattle.resp_value.specs.declared.version.Version.TheVariants.{Two}
use Rattle.resp_value.specs.declared.cause.Cause.{Cause}
use Rattle.resp_value.specs.declared.cause.Cause.TheVariants.{NotInVersion}
use Rattle.resp_session.specs.Connections.{Connection, values_of, back_text, sent_text, arrived_requests, later_requests, new_requests, whole_within, with_effect, with_request, with_message, with_arrived, push_message}
use Rattle.resp_session.specs.Reading.{ReadsAs}
use Rattle.resp_session.specs.ReadingLaws.{ReadingsGoOn, ReadingsStay}
use Rattle.resp_session.specs.Requests.{Request, Hello, Command, is_unsent_request, request_words, request_text, version_asked}
use Rattle.resp_session.specs.Runs.{Outcome, Done, Refused, Gone, Step, Run, RefusesEvent, connection_of}
use Rattle.resp_session.specs.Stores.{Effect, effect_of_words}
use Rattle.resp_session.specs.WorldLaws.{IsPossible, IsWritten, IsReadByItsClient, EachMessageIsWritten, WhatIsWrittenIsRead}
use Rattle.resp_session.specs.Worlds.{World, WorldEvent, Send, Greet, ToServer, ToClient, Push, Drop, connection_at, world_with, version_of, after_command, after_commands, after_event, after_arrival, commands_for, new_world}
use Rattle.resp_session.proofs.Changes.{changed_at, is_changed}
use Rattle.resp_session.proofs.Elements.{all_taken, all_dropped}
use Rattle.resp_session.proofs.Parts.{AllHold, comes_from, arrived_requests-with_request}
use Rattle.resp_session.proofs.SentRequests.{IsSent, AllSent, step_sent, new_sent}
use Rattle.resp_session.proofs.WorldsHold.{arrived_then_new, arrived_of, one_connection, step_holds, new_at, new_world_holds}
use Rattle.resp_session.proofs.WrittenIsRead.{IsRead, reply_read, push_read, waits}

abbrev AllRead : Bounds → World → Type 0
AllRead limits w = (i : ℕ) (c : Connection) → connection_at w.connections i ≡ Some c → IsRead limits (arrived_requests c) c

-- a change of a connection that keeps it
change_read : (limits : Bounds) (f : Connection → Connection) (w : World) (i : ℕ) →
    ((c : Connection) → connection_at w.connections i ≡ Some c → IsRead limits (arrived_requests c) c → IsRead limits (arrived_requests (f c)) (f c)) →
    AllRead limits w → AllRead limits (world_with f w i)
change_read limits f w i keeps all j c e = elim (is_changed f w.connections i j c e) as (λ _. IsRead limits (arrived_requests c) c) [
  | inl h ↦
      let (before, at, same) = h.1 in
      subst (λ x. IsRead limits (arrived_requests x) x) (sym same) (keeps before (ap (connection_at w.connections) h.0 ∙ at) (all j before at))
  | inr h ↦ all j c h.1
]

-- a client sends the request
abbrev IsUnrefused : Request → Type 0
IsUnrefused request = is_unsent_request request ≡ false

abbrev AreUnrefused : List Request → Type 0
AreUnrefused requests = AllByRecursion IsUnrefused requests

unrefused : (limits : Bounds) (requests : List Request) → AllByRecursion (IsSent limits) requests → AreUnrefused requests
unrefused limits [] h = tt
unrefused limits (r ∷ rs) h = (h.0.1, unrefused limits rs h.1)

-- the client's connection after its commands
commands_read : VersionThreeSpellsWhatTwoDoes → ReadingsGoOn → ReadingsStay → (limits : Bounds) (w : World) (i : ℕ) (news : List Request) → AreUnrefused news →
    (own : Connection) → connection_at w.connections i ≡ Some own → (requests : List Request) → IsRead limits requests own →
    (c : Connection) → connection_at (after_commands w (commands_for i news)).connections i ≡ Some c → IsRead limits (requests ++ news) c
commands_read three go_on stay limits w i [] sent own at requests read c e =
    let same : c ≡ own = one_connection own c (connection_at w.connections i) at e in
    subst (λ x. IsRead limits (requests ++ []) x) (sym same) (subst (λ l. IsRead limits l own) (sym (append-nil requests)) read)
commands_read three go_on stay limits w i (r ∷ news) sent own at requests read c e =
    let command : ℕ × List (List ℕ) = (i, request_words r) in
    let effect : Effect = effect_of_words w.store own.version i (request_words r) in
    let same : effect_of_words w.store (version_of (connection_at w.connections i)) i (request_words r) ≡ effect =
    ap (λ o. effect_of_words w.store (version_of o) i (request_words r)) at in
    let next : connection_at (after_command w command).connections i ≡ Some (with_effect effect own) =
    changed_at _ w.connections i own at ∙ ap (λ x. Some (with_effect x own)) same in
    let one = reply_read three go_on stay limits w.store i requests own r sent.0 read in
    let all = commands_read three go_on stay limits (after_command w command) i news sent.1 (with_effect effect own) next (requests ++ r ∷ []) one c e in
    subst (λ l. IsRead limits l c) (append_assoc requests (r ∷ []) news) all

-- the others stay as they are
others_stay : (w : World) (i : ℕ) (news : List Request) (j : ℕ) (c : Connection) → (i ≡ j → ⊥) →
    connection_at (after_commands w (commands_for i news)).connections j ≡ Some c → connection_at w.connections j ≡ Some c
others_stay w i [] j c other e = e
others_stay w i (r ∷ news) j c other e = elim (is_changed _ w.connections i j c (others_stay (after_command w (i, request_words r)) i news j c other e)) as
    (λ _. connection_at w.connections j ≡ Some c) [
      | inl h ↦ absurd (other h.0)
      | inr h ↦ h.1
    ]

other_stays : (f : Connection → Connection) (w : World) (i j : ℕ) (c : Connection) → (i ≡ j → ⊥) → connection_at (world_with f w i).connections j ≡ Some c →
    connection_at w.connections j ≡ Some c
other_stays f w i j c other e = elim (is_changed f w.connections i j c e) as (λ _. connection_at w.connections j ≡ Some c) [
  | inl h ↦ absurd (other h.0)
  | inr h ↦ h.1
]

-- the connection to whose session bytes have come
own_read : VersionThreeSpellsWhatTwoDoes → ReadingsGoOn → ReadingsStay → (limits : Bounds) (w : World) (i k : ℕ) (own : Connection) →
    connection_at w.connections i ≡ Some own → AllHold w → AllSent limits w → AllRead limits w → (c : Connection) →
    connection_at (after_arrival w i k (Some own)).connections i ≡ Some c → IsRead limits (arrived_requests c) c
own_read three go_on stay limits w i k own at held sent all c e =
    let w1 : World = world_with (with_arrived k) w i in
    let news = new_requests k own in
    let at1 : connection_at w1.connections i ≡ Some (with_arrived k own) = changed_at (with_arrived k) w.connections i own at in
    let fine : AreUnrefused news = all_dropped IsUnrefused (length (arrived_requests own)) (arrived_requests (with_arrived k own))
    (all_taken IsUnrefused (whole_within (map request_text own.requests) (min (own.arrived + k) (length (sent_text own)))) own.requests
    (unrefused limits own.requests (sent i own at))) in
    let read = commands_read three go_on stay limits w1 i news fine (with_arrived k own) at1 (arrived_requests own) (all i own at) c e in
    let h = comes_from w1 (commands_for i news) i c e in
    let before : h.before ≡ with_arrived k own = one_connection (with_arrived k own) h.before (connection_at w1.connections i) at1 h.at in
    let requests : c.requests ≡ own.requests = h.requests ∙ ap (λ (x : Connection). x.requests) before in
    let arrived : c.arrived ≡ min (own.arrived + k) (length (sent_text own)) = h.arrived ∙ ap (λ (x : Connection). x.arrived) before in
    let now : arrived_requests (with_arrived k own) ≡ arrived_requests c =
    sym (ap (λ l. arrived_of l c.arrived) requests ∙ ap (arrived_of own.requests) arrived) in
    subst (λ l. IsRead limits l c) (arrived_then_new k own (held i own at).within ∙ now) read

arrival_read : VersionThreeSpellsWhatTwoDoes → ReadingsGoOn → ReadingsStay → (limits : Bounds) (w : World) (i k : ℕ) (o : Option Connection) →
    connection_at w.connections i ≡ o → AllHold w → AllSent limits w → AllRead limits w → AllRead limits (after_arrival w i k o)
arrival_read three go_on stay limits w i k None at held sent all j c e = all j c e
arrival_read three go_on stay limits w i k (Some own) at held sent all j c e = elim (cases_eq i j) as (λ _. IsRead limits (arrived_requests c) c) [
  | inl h ↦ own_read three go_on stay limits w i k own at held sent all c (ap (connection_at (after_arrival w i k (Some own)).connections) h ∙ e)
  | inr h ↦ all j c (other_stays (with_arrived k) w i j c h (others_stay (world_with (with_arrived k) w i) i (new_requests k own) j c h e))
]

event_read : VersionThreeSpellsWhatTwoDoes → ReadingsGoOn → ReadingsStay → (limits : Bounds) (w : World) (event : WorldEvent) →
    ((cause : Cause) → RefusesEvent limits (connection_of w event) event cause → ⊥) → AllHold w → AllSent limits w → AllRead limits w →
    AllRead limits (after_event w event)
event_read three go_on stay limits w (Send i words) fine held sent all = change_read limits (with_request (Command words)) w i
    (λ c at r. subst (λ l. IsRead limits l c) (sym (arrived_requests-with_request (Command words) c (held i c at).within)) r) all
event_read three go_on stay limits w (Greet i asked) fine held sent all = change_read limits (with_request (Hello asked)) w i
    (λ c at r. subst (λ l. IsRead limits l c) (sym (arrived_requests-with_request (Hello asked) c (held i c at).within)) r) all
event_read three go_on stay limits w (ToServer i k) fine held sent all =
    arrival_read three go_on stay limits w i k (connection_at w.connections i) refl held sent all
event_read three go_on stay limits w (ToClient i k) fine held sent all = change_read limits _ w i (λ c at r. r) all
event_read three go_on stay limits w (Push i items) fine held sent all = change_read limits (with_message (push_message items)) w i
    (λ c at r. push_read go_on stay limits items (arrived_requests c) c (λ two. fine NotInVersion (ap version_of at ∙ two)) r) all
event_read three go_on stay limits w (Drop i) fine held sent all = change_read limits _ w i (λ c at r. r) all

step_read : VersionThreeSpellsWhatTwoDoes → ReadingsGoOn → ReadingsStay →
    (limits : Bounds) (w : World) (event : WorldEvent) (outcome : Outcome) (next : World) →
    Step limits w event outcome next → AllHold w → AllSent limits w → AllRead limits w → AllRead limits next
step_read three go_on stay limits w event Done next s held sent all =
    subst (AllRead limits) (sym s.2) (event_read three go_on stay limits w event s.1 held sent all)
step_read three go_on stay limits w event (Refused cause) next s held sent all = subst (AllRead limits) (sym s.2) all
step_read three go_on stay limits w event Gone next s held sent all = subst (AllRead limits) (sym s.1) all

run_read : CanonicalTextSpellsWhatFits → VersionThreeSpellsWhatTwoDoes → ReadingsGoOn → ReadingsStay → (limits : Bounds) → AreBounds limits → (w : World)
    (events : List WorldEvent) (last : World) → AllByRecursion IsPossible events → Run limits w events last → AllHold w → AllSent limits w → AllRead limits w →
    AllRead limits last
run_read spells three go_on stay limits bounds w [] last bytes r held sent all = subst (AllRead limits) (sym r) all
run_read spells three go_on stay limits bounds w (event ∷ events) last bytes r held sent all =
    let (outcome, next, s, t) = r in
    run_read spells three go_on stay limits bounds next events last bytes.1 t (step_holds limits w event outcome next s held)
    (step_sent spells limits bounds w event outcome next bytes.0 s sent) (step_read three go_on stay limits w event outcome next s held sent all)

new_read : (limits : Bounds) (n : ℕ) → AllRead limits (new_world n)
new_read limits n i c e = subst (λ x. IsRead limits (arrived_requests x) x) (sym (new_at n i c e)) (λ written. (refl, refl))

-- where all messages are within the limits, their text is what the client reads
what_fits_is_read : CanonicalTextSpellsWhatFits → VersionThreeSpellsWhatTwoDoes → ReadingsGoOn → ReadingsStay →
    (limits : Bounds) (n : ℕ) (events : List WorldEvent) (w : World) → AreBounds limits → AllByRecursion IsPossible events →
    Run limits (new_world n) events w → (i : ℕ) (c : Connection) → connection_at w.connections i ≡ Some c →
    AllByRecursion (IsWritten limits) c.messages → IsReadByItsClient limits c
what_fits_is_read spells three go_on stay limits n events w bounds possible r i c at written =
    let read = run_read spells three go_on stay limits bounds (new_world n) events w possible r (new_world_holds n) (new_sent limits n) (new_read limits n) i c
    at written in
    let asks = map version_asked (later_requests c) in
    let more = stay limits (waits Two (map version_asked (arrived_requests c))) (waits c.version []) asks (values_of c.messages) (back_text c) read in
    let k = whole_within (map request_text c.requests) c.arrived in
    let whole : map version_asked (arrived_requests c) ++ asks ≡ map version_asked c.requests =
    sym (map-append version_asked (arrived_requests c) (later_requests c)) ∙ ap (map version_asked) (take-append-drop k c.requests) in
    subst (λ l. ReadsAs limits (waits Two l) (values_of c.messages) (back_text c) (waits c.version asks)) whole more

pub what_is_written_is_read : CanonicalTextSpellsWhatFits → VersionThreeSpellsWhatTwoDoes → ReadingsGoOn → ReadingsStay → EachMessageIsWritten →
    WhatIsWrittenIsRead
what_is_written_is_read spells three go_on stay written limits n events w bounds few possible r i c at =
    what_fits_is_read spells three go_on stay limits n events w bounds possible r i c at (written limits n events w bounds few possible r i c at)
