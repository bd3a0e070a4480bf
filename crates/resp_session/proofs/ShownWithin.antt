-- No more has come than was sent.
use Rattle.std.proofs.Common.{◌≡◌, inl, inr, ℕ, ◌+◌, ◌≤◌, List, [], ◌∷◌, ◌++◌, length, map, take, Option, None, Some, sym, ap, subst, ◌∙◌, arith, length-append}
use Rattle.std.proofs.lemmas.List.{map-append, take-append-le}
use Rattle.std.proofs.lemmas.List.Folds.{concat-append}
use Rattle.std.specs.List.{concat}
use Rattle.resp_value.specs.Bounds.{Bounds}
use Rattle.resp_session.specs.Connections.{Connection, Message, arrived_requests, as_dropped, back_text, message_text, new_requests, push_message, sent_text, with_arrived, with_effect, with_message, with_request, with_shown}
use Rattle.resp_session.specs.Requests.{Hello, Command, Request, request_text}
use Rattle.resp_session.specs.Runs.{Outcome, Done, Refused, Gone, Step, Run}
use Rattle.resp_session.specs.Serving.{ArrivalsStay, WhatHasComeWasSent}
use Rattle.resp_session.specs.Stores.{Effect, effect_of_words}
use Rattle.resp_session.specs.Worlds.{World, WorldEvent, Send, Greet, ToServer, ToClient, Push, Drop, after_arrival, after_command, after_commands, after_event, commands_for, connection_at, new_world, version_of, with_change, world_with}
use Rattle.resp_value.specs.Spellings.{AreSpellings}
use Rattle.resp_session.specs.Answers.{server_rules}
use Rattle.resp_session.proofs.Changes.{is_changed}
use Rattle.resp_session.proofs.Parts.{arrived_requests-with_request}
use Rattle.resp_session.proofs.ServedCommands.{command_value}
use Rattle.resp_session.proofs.WorldsHold.{new_at, new_world_holds, run_holds}

abbrev IsWithin : Connection → Type 0
IsWithin c = c.shown ≤ length (back_text c)

abbrev AllWithin : List Connection → Type 0
AllWithin cs = (i : ℕ) (c : Connection) → connection_at cs i ≡ Some c → IsWithin c

change_within : (f : Connection → Connection) → ((c : Connection) → IsWithin c → IsWithin (f c)) → (cs : List Connection) (i : ℕ) → AllWithin cs →
    AllWithin (with_change f cs i)
change_within f keeps cs i all j c e = elim (is_changed f cs i j c e) as (λ _. IsWithin c) [
  | inl h ↦ let (before, at, same) = h.1 in subst IsWithin (sym same) (keeps before (all j before at))
  | inr h ↦ all j c h.1
]

-- one message more
message_within : (m : Message) (c : Connection) → IsWithin c → c.shown ≤ length (concat (map message_text (c.messages ++ m ∷ [])))
message_within m c h =
    let longer : length (concat (map message_text (c.messages ++ m ∷ []))) ≡ length (back_text c) + length (concat (message_text m ∷ [])) =
    ap (λ l. length (concat l)) (map-append message_text c.messages (m ∷ [])) ∙ ap length (concat-append (map message_text c.messages) (message_text m ∷ [])) ∙
    length-append (back_text c) (concat (message_text m ∷ [])) in
    omega (arith, h, longer)

commands_within : (w : World) (commands : List (ℕ × List (List ℕ))) → AllWithin w.connections → AllWithin (after_commands w commands).connections
commands_within w [] all = all
commands_within w (command ∷ commands) all =
    let effect : Effect = effect_of_words w.store (version_of (connection_at w.connections command.0)) command.0 command.1 in
    commands_within (after_command w command) commands
    (change_within (with_effect effect) (λ c h. message_within (record { value = effect.reply; version = effect.version }) c h) w.connections command.0 all)

arrival_within : (w : World) (i k : ℕ) (o : Option Connection) → AllWithin w.connections → AllWithin (after_arrival w i k o).connections
arrival_within w i k None all = all
arrival_within w i k (Some c) all =
    commands_within (world_with (with_arrived k) w i) (commands_for i (new_requests k c)) (change_within (with_arrived k) (λ d h. h) w.connections i all)

event_within : (w : World) (event : WorldEvent) → AllWithin w.connections → AllWithin (after_event w event).connections
event_within w (Send i words) all = change_within (with_request (Command words)) (λ c h. h) w.connections i all
event_within w (Greet i asked) all = change_within (with_request (Hello asked)) (λ c h. h) w.connections i all
event_within w (ToServer i k) all = arrival_within w i k (connection_at w.connections i) all
event_within w (ToClient i k) all = change_within (with_shown k) (λ c h. omega arith) w.connections i all
event_within w (Push i items) all = change_within (with_message (push_message items)) (λ c h. message_within (push_message items) c h) w.connections i all
event_within w (Drop i) all = change_within as_dropped (λ c h. h) w.connections i all

step_within : (limits : Bounds) (w : World) (event : WorldEvent) (outcome : Outcome) (next : World) → Step limits w event outcome next →
    AllWithin w.connections → AllWithin next.connections
step_within limits w event Done next s all = subst (λ (v : World). AllWithin v.connections) (sym s.2) (event_within w event all)
step_within limits w event (Refused cause) next s all = subst (λ (v : World). AllWithin v.connections) (sym s.2) all
step_within limits w event Gone next s all = subst (λ (v : World). AllWithin v.connections) (sym s.1) all

run_within : (limits : Bounds) (w : World) (events : List WorldEvent) (last : World) → Run limits w events last → AllWithin w.connections →
    AllWithin last.connections
run_within limits w [] last r all = subst (λ (v : World). AllWithin v.connections) (sym r) all
run_within limits w (event ∷ events) last r all =
    let (outcome, next, s, t) = r in
    run_within limits next events last t (step_within limits w event outcome next s all)

new_within : (n : ℕ) → AllWithin (new_world n).connections
new_within n i c e = subst IsWithin (sym (new_at n i c e)) (omega arith)

pub what_has_come_was_sent : WhatHasComeWasSent
what_has_come_was_sent limits n events w r i c at = (
  (run_holds limits (new_world n) events w r (new_world_holds n) i c at).within,
  run_within limits (new_world n) events w r (new_within n) i c at,
)

-- the text of the requests goes on with one request more
one_more_text : (request : Request) (c : Connection) → sent_text (with_request request c) ≡ sent_text c ++ concat (request_text request ∷ [])
one_more_text request c =
    ap concat (map-append request_text c.requests (request ∷ [])) ∙ concat-append (map request_text c.requests) (request_text request ∷ [])

pub arrivals_stay : ArrivalsStay
arrivals_stay limits n events w r i c at request rest h =
    let within = (run_holds limits (new_world n) events w r (new_world_holds n) i c at).within in
    let same : arrived_requests c ≡ arrived_requests (with_request request c) = sym (arrived_requests-with_request request c within) in
    record {
      front = h.front;
      spelled = subst (λ l. AreSpellings (server_rules limits) (map command_value l) h.front) same h.spelled;
      whole = ap (take c.arrived) (one_more_text request c) ∙ take-append-le c.arrived (sent_text c) (concat (request_text request ∷ [])) within ∙ h.whole;
    }
