-- What the sessions of a world have written is within the limits.
use Rattle.std.proofs.Common.{◌≡◌, inl, inr, ℕ, zero, suc, ◌^◌, ◌<◌, ◌≤◌, List, [], ◌∷◌, length, Option, None, Some, refl, sym, ap, subst, ◌∙◌, arith}
use Rattle.std.specs.List.{AllByRecursion}
use Rattle.std.specs.Str.{bytes_eq}
use Rattle.std.proofs.lemmas.Map.Keys.{IsDistinct-from_apart}
use Rattle.resp_value.specs.Bounds.{Bounds, AreBounds}
use Rattle.resp_value.specs.Laws.{CanonicalTextSpellsWhatFits}
use Rattle.resp_value.specs.Rules.{rules_under}
use Rattle.resp_value.specs.declared.cause.Cause.{Cause}
use Rattle.resp_value.specs.declared.version.Version.TheVariants.{Three}
use Rattle.resp_session.specs.Connections.{Connection, Message, arrived_requests, new_requests, with_effect, with_request, with_message, with_arrived, push_message}
use Rattle.resp_session.specs.Fitting.{FitsStore, FitsEffect, EffectsFit}
use Rattle.resp_session.specs.Requests.{Request, Hello, Command, request_words, request_text}
use Rattle.resp_session.specs.Runs.{Outcome, Done, Refused, Gone, Step, Run, RefusesEvent, connection_of}
use Rattle.resp_session.specs.Stores.{Effect, effect_of_words}
use Rattle.resp_session.specs.WorldLaws.{IsPossible, IsWritten, EachMessageIsWritten}
use Rattle.resp_session.specs.Worlds.{World, WorldEvent, Send, Greet, ToServer, ToClient, Push, Drop, connection_at, with_change, world_with, version_of, after_command, after_commands, after_event, after_arrival, commands_for, new_connections, new_world}
use Rattle.resp_session.proofs.Changes.{is_changed}
use Rattle.resp_session.proofs.Elements.{all_and_last, all_taken, all_dropped}
use Rattle.resp_session.proofs.PushesFit.{push_fits}
use Rattle.resp_session.proofs.SentRequests.{IsSent, AllSent, step_sent, new_sent}
use Rattle.resp_session.proofs.WorldsHold.{new_at}

abbrev AreWritten : Bounds → Connection → Type 0
AreWritten limits c = AllByRecursion (IsWritten limits) c.messages

-- the store and all messages are within the limits, and the clients are so few that each number has 63 bits
record WorldFits (limits : Bounds) (w : World) : Type 0 where
  store : FitsStore limits w.store
  few : length w.connections < 2 ^ 63
  written : (i : ℕ) (c : Connection) → connection_at w.connections i ≡ Some c → AreWritten limits c

length-with_change : (f : Connection → Connection) (cs : List Connection) (i : ℕ) → length (with_change f cs i) ≡ length cs
length-with_change f [] i = refl
length-with_change f (c ∷ cs) zero = refl
length-with_change f (c ∷ cs) (suc zero) = refl
length-with_change f (c ∷ cs) (suc (suc i)) = let h = length-with_change f cs (suc i) in omega (arith, h)

number_at_most : (cs : List Connection) (i : ℕ) (c : Connection) → connection_at cs i ≡ Some c → i ≤ length cs
number_at_most [] i c e = absurd (cc)
number_at_most (first ∷ cs) zero c e = absurd (cc)
number_at_most (first ∷ cs) (suc zero) c e = omega arith
number_at_most (first ∷ cs) (suc (suc i)) c e = let h = number_at_most cs (suc i) c e in omega (arith, h)

-- a change of a connection that keeps this of it
written_with : (limits : Bounds) (f : Connection → Connection) (cs : List Connection) (i : ℕ) →
    ((c : Connection) → connection_at cs i ≡ Some c → AreWritten limits c → AreWritten limits (f c)) →
    ((j : ℕ) (c : Connection) → connection_at cs j ≡ Some c → AreWritten limits c) →
    (j : ℕ) (c : Connection) → connection_at (with_change f cs i) j ≡ Some c → AreWritten limits c
written_with limits f cs i keeps all j c e = elim (is_changed f cs i j c e) as (λ _. AreWritten limits c) [
  | inl h ↦
      let (before, at, same) = h.1 in
      subst (AreWritten limits) (sym same) (keeps before (ap (connection_at cs) h.0 ∙ at) (all j before at))
  | inr h ↦ all j c h.1
]

change_fits : (limits : Bounds) (f : Connection → Connection) (w : World) (i : ℕ) →
    ((c : Connection) → connection_at w.connections i ≡ Some c → AreWritten limits c → AreWritten limits (f c)) → WorldFits limits w →
    WorldFits limits (world_with f w i)
change_fits limits f w i keeps h =
    let few = h.few in
    record {
      store = h.store;
      few = omega (arith, few, length-with_change f w.connections i);
      written = written_with limits f w.connections i keeps h.written;
    }

-- after a command that is spelled within the limits
command_fits : CanonicalTextSpellsWhatFits → EffectsFit → (limits : Bounds) → AreBounds limits → (w : World) (i : ℕ) → i < 2 ^ 63 → (request : Request) →
    IsSent limits request → WorldFits limits w → WorldFits limits (after_command w (i, request_words request))
command_fits spells fit limits bounds w i small request sent h =
    let version = version_of (connection_at w.connections i) in
    let effect : Effect = effect_of_words w.store version i (request_words request) in
    let m : Message = record { value = effect.reply; version = effect.version } in
    let fits : FitsEffect limits effect =
    fit limits w.store version i (request_words request) (request_text request) bounds h.store small sent.2 in
    let written : IsWritten limits m = (spells (rules_under effect.version limits) effect.reply fits.value).1 fits.reply in
    let few = h.few in
    record {
      store = fits.store;
      few = omega (arith, few, length-with_change (with_effect effect) w.connections i);
      written = written_with limits (with_effect effect) w.connections i (λ c at all. all_and_last (IsWritten limits) c.messages m all written) h.written;
    }

commands_fit : CanonicalTextSpellsWhatFits → EffectsFit → (limits : Bounds) → AreBounds limits → (w : World) (i : ℕ) → i < 2 ^ 63 → (news : List Request) →
    AllByRecursion (IsSent limits) news → WorldFits limits w → WorldFits limits (after_commands w (commands_for i news))
commands_fit spells fit limits bounds w i small [] sent h = h
commands_fit spells fit limits bounds w i small (r ∷ news) sent h =
    commands_fit spells fit limits bounds (after_command w (i, request_words r)) i small news sent.1
    (command_fits spells fit limits bounds w i small r sent.0 h)

arrival_fits : CanonicalTextSpellsWhatFits → EffectsFit → (limits : Bounds) → AreBounds limits → (w : World) (i k : ℕ) (o : Option Connection) →
    connection_at w.connections i ≡ o → AllSent limits w → WorldFits limits w → WorldFits limits (after_arrival w i k o)
arrival_fits spells fit limits bounds w i k None at sent h = h
arrival_fits spells fit limits bounds w i k (Some own) at sent h =
    let few = h.few in
    let most = number_at_most w.connections i own at in
    let news : AllByRecursion (IsSent limits) (new_requests k own) =
    all_dropped (IsSent limits) (length (arrived_requests own)) (arrived_requests (with_arrived k own))
    (all_taken (IsSent limits) _ own.requests (sent i own at)) in
    commands_fit spells fit limits bounds (world_with (with_arrived k) w i) i (omega (arith, few, most)) (new_requests k own) news
    (change_fits limits (with_arrived k) w i (λ c at written. written) h)

event_fits : CanonicalTextSpellsWhatFits → EffectsFit → (limits : Bounds) → AreBounds limits → (w : World) (event : WorldEvent) → IsPossible event →
    ((cause : Cause) → RefusesEvent limits (connection_of w event) event cause → ⊥) → AllSent limits w → WorldFits limits w →
    WorldFits limits (after_event w event)
event_fits spells fit limits bounds w (Send i words) possible fine sent h = change_fits limits (with_request (Command words)) w i (λ c at written. written) h
event_fits spells fit limits bounds w (Greet i asked) possible fine sent h = change_fits limits (with_request (Hello asked)) w i (λ c at written. written) h
event_fits spells fit limits bounds w (ToServer i k) possible fine sent h =
    arrival_fits spells fit limits bounds w i k (connection_at w.connections i) refl sent h
event_fits spells fit limits bounds w (ToClient i k) possible fine sent h = change_fits limits _ w i (λ c at written. written) h
event_fits spells fit limits bounds w (Push i items) possible fine sent h =
    let m : Message = push_message items in
    let fits = push_fits limits (version_of (connection_at w.connections i)) m.value fine in
    let written : IsWritten limits m = (spells (rules_under Three limits) m.value possible).1 fits in
    change_fits limits (with_message m) w i (λ c at all. all_and_last (IsWritten limits) c.messages m all written) h
event_fits spells fit limits bounds w (Drop i) possible fine sent h = change_fits limits _ w i (λ c at written. written) h

step_fits : CanonicalTextSpellsWhatFits → EffectsFit → (limits : Bounds) → AreBounds limits → (w : World) (event : WorldEvent) (outcome : Outcome)
    (next : World) → IsPossible event → Step limits w event outcome next → AllSent limits w → WorldFits limits w → WorldFits limits next
step_fits spells fit limits bounds w event Done next possible s sent h =
    subst (WorldFits limits) (sym s.2) (event_fits spells fit limits bounds w event possible s.1 sent h)
step_fits spells fit limits bounds w event (Refused cause) next possible s sent h = subst (WorldFits limits) (sym s.2) h
step_fits spells fit limits bounds w event Gone next possible s sent h = subst (WorldFits limits) (sym s.1) h

run_fits : CanonicalTextSpellsWhatFits → EffectsFit → (limits : Bounds) → AreBounds limits → (w : World) (events : List WorldEvent) (last : World) →
    AllByRecursion IsPossible events → Run limits w events last → AllSent limits w → WorldFits limits w → WorldFits limits last
run_fits spells fit limits bounds w [] last possible r sent h = subst (WorldFits limits) (sym r) h
run_fits spells fit limits bounds w (event ∷ events) last possible r sent h =
    let (outcome, next, s, t) = r in
    run_fits spells fit limits bounds next events last possible.1 t (step_sent spells limits bounds w event outcome next possible.0 s sent)
    (step_fits spells fit limits bounds w event outcome next possible.0 s sent h)

length-new_connections : (n : ℕ) → length (new_connections n) ≡ n
length-new_connections zero = refl
length-new_connections (suc n) = ap suc (length-new_connections n)

new_fits : (limits : Bounds) (n : ℕ) → n < 2 ^ 63 → WorldFits limits (new_world n)
new_fits limits n few = record {
  store = record { distinct = IsDistinct-from_apart bytes_eq [] (λ i j d before within. absurd (omega (arith, within))); values = tt };
  few = omega (arith, few, length-new_connections n);
  written = λ i c at. subst (AreWritten limits) (sym (new_at n i c at)) tt;
}

pub each_message_is_written : CanonicalTextSpellsWhatFits → EffectsFit → EachMessageIsWritten
each_message_is_written spells fit limits n events w bounds few possible r i c at =
    (run_fits spells fit limits bounds (new_world n) events w possible r (new_sent limits n) (new_fits limits n few)).written i c at
