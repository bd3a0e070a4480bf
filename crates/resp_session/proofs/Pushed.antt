-- The pushes of a run.
use Rattle.std.proofs.Common.{◌≡◌, inl, inr, ℕ, false, cond, List, [], ◌∷◌, ◌++◌, Option, None, Some, refl, sym, ap, subst, ◌∙◌, append_assoc, append-nil}
use Rattle.std.proofs.lemmas.Bool.{eq-eqb, ne_eqb}
use Rattle.std.proofs.lemmas.List.{map-append}
use Rattle.std.proofs.lemmas.List.Elements.{filter-append}
use Rattle.resp_value.specs.Bounds.{Bounds}
use Rattle.resp_value.specs.Data.{Datum, aggregate, data_of_list}
use Rattle.resp_value.specs.Data as d
use Rattle.resp_session.specs.Connections.{Connection, Message, new_requests, push_message, shown_pushes, values_of, with_arrived, with_effect, with_message, with_request, with_shown, as_dropped}
use Rattle.resp_session.specs.Heard.{is_push, pushes_of}
use Rattle.resp_session.specs.Orders.{IsBeginning}
use Rattle.resp_session.specs.Pushed.{PushesAreOfEvents, ShownPushesAreOfEvents, pushed_by, pushed_in}
use Rattle.resp_session.specs.Requests.{Hello, Command}
use Rattle.resp_session.specs.Runs.{Outcome, Done, Refused, Gone, Step, Run}
use Rattle.resp_session.specs.Stores.{Effect, effect_of_words}
use Rattle.resp_session.specs.Worlds.{World, WorldEvent, Send, Greet, ToServer, ToClient, Push, Drop, after_arrival, after_command, after_commands, after_event, commands_for, connection_at, new_world, version_of, world_with}
use Rattle.resp_session.proofs.Changes.{is_changed}
use Rattle.resp_session.proofs.Parts.{replies_to_words}
use Rattle.resp_session.proofs.WorldLaws.{what_is_shown_was_sent}
use Rattle.resp_session.proofs.WorldsHold.{new_at}

abbrev pushes_sent : Connection → List Datum
pushes_sent c = pushes_of (values_of c.messages)

-- each session has sent these pushes
abbrev HavePushed : World → (ℕ → List Datum) → Type 0
HavePushed w pushed = (i : ℕ) (c : Connection) → connection_at w.connections i ≡ Some c → pushes_sent c ≡ pushed i

-- one message more
pushes_and_one : (m : Message) (c : Connection) → pushes_sent (with_message m c) ≡ pushes_sent c ++ pushes_of (m.value ∷ [])
pushes_and_one m c =
    ap pushes_of (map-append (λ (x : Message). x.value) c.messages (m ∷ [])) ∙ filter-append is_push (values_of c.messages) (m.value ∷ [])

-- a change of one connection that sends no push
change_pushed : (f : Connection → Connection) → ((c : Connection) → pushes_sent (f c) ≡ pushes_sent c) → (w : World) (i : ℕ) (pushed : ℕ → List Datum) →
    HavePushed w pushed → HavePushed (world_with f w i) pushed
change_pushed f q w i pushed h j c e = elim (is_changed f w.connections i j c e) as (λ _. pushes_sent c ≡ pushed j) [
  | inl a ↦ let (before, at, same) = a.1 in ap pushes_sent same ∙ q before ∙ h j before at
  | inr a ↦ h j c a.1
]

-- a reply is no push
effect_pushes_nothing : (effect : Effect) → is_push effect.reply ≡ false → (c : Connection) → pushes_sent (with_effect effect c) ≡ pushes_sent c
effect_pushes_nothing effect e c =
    let m : Message = record { value = effect.reply; version = effect.version } in
    pushes_and_one m c ∙ ap (λ b. pushes_sent c ++ cond b (effect.reply ∷ []) []) e ∙ append-nil (pushes_sent c)

commands_pushed : (w : World) (commands : List (ℕ × List (List ℕ))) (pushed : ℕ → List Datum) → HavePushed w pushed →
    HavePushed (after_commands w commands) pushed
commands_pushed w [] pushed h = h
commands_pushed w (command ∷ commands) pushed h =
    let version = version_of (connection_at w.connections command.0) in
    let effect : Effect = effect_of_words w.store version command.0 command.1 in
    let reply : is_push effect.reply ≡ false = replies_to_words w.store version command.0 command.1 in
    commands_pushed (after_command w command) commands pushed
    (change_pushed (with_effect effect) (effect_pushes_nothing effect reply) w command.0 pushed h)

arrival_pushed : (w : World) (i k : ℕ) (o : Option Connection) (pushed : ℕ → List Datum) → HavePushed w pushed →
    HavePushed (after_arrival w i k o) pushed
arrival_pushed w i k None pushed h = h
arrival_pushed w i k (Some own) pushed h =
    commands_pushed (world_with (with_arrived k) w i) (commands_for i (new_requests k own)) pushed
    (change_pushed (with_arrived k) (λ c. refl) w i pushed h)

-- what was pushed, and what this event pushes
abbrev and_pushed : (ℕ → List Datum) → Outcome → WorldEvent → ℕ → List Datum
and_pushed pushed outcome event i = pushed i ++ pushed_by i outcome event

push_pushed : (w : World) (i : ℕ) (items : List Datum) (pushed : ℕ → List Datum) → HavePushed w pushed →
    HavePushed (world_with (with_message (push_message items)) w i) (and_pushed pushed Done (Push i items))
push_pushed w i items pushed h j c e =
    let push : Datum = aggregate d.Push (data_of_list items) in
    elim (is_changed (with_message (push_message items)) w.connections i j c e) as (λ _. pushes_sent c ≡ pushed j ++ pushed_by j Done (Push i items)) [
      | inl a ↦ let (before, at, same) = a.1 in
          ap pushes_sent same ∙ pushes_and_one (push_message items) before ∙ ap (λ l. l ++ push ∷ []) (h j before at) ∙
          ap (λ b. pushed j ++ cond b (push ∷ []) []) (sym (eq-eqb i j a.0))
      | inr a ↦ h j c a.1 ∙ sym (append-nil (pushed j)) ∙ ap (λ b. pushed j ++ cond b (push ∷ []) []) (sym (ne_eqb i j a.0))
    ]

-- where nothing is pushed
nothing_more : (w : World) (pushed : ℕ → List Datum) → HavePushed w pushed → HavePushed w (λ i. pushed i ++ [])
nothing_more w pushed h i c e = h i c e ∙ sym (append-nil (pushed i))

event_pushed : (w : World) (event : WorldEvent) (pushed : ℕ → List Datum) → HavePushed w pushed →
    HavePushed (after_event w event) (and_pushed pushed Done event)
event_pushed w (Send i words) pushed h = nothing_more (after_event w (Send i words)) pushed (change_pushed (with_request (Command words)) (λ c. refl) w i pushed h)
event_pushed w (Greet i asked) pushed h = nothing_more (after_event w (Greet i asked)) pushed (change_pushed (with_request (Hello asked)) (λ c. refl) w i pushed h)
event_pushed w (ToServer i k) pushed h = nothing_more (after_event w (ToServer i k)) pushed (arrival_pushed w i k (connection_at w.connections i) pushed h)
event_pushed w (ToClient i k) pushed h = nothing_more (after_event w (ToClient i k)) pushed (change_pushed (with_shown k) (λ c. refl) w i pushed h)
event_pushed w (Push i items) pushed h = push_pushed w i items pushed h
event_pushed w (Drop i) pushed h = nothing_more (after_event w (Drop i)) pushed (change_pushed as_dropped (λ c. refl) w i pushed h)

step_pushed : (limits : Bounds) (w : World) (event : WorldEvent) (outcome : Outcome) (next : World) → Step limits w event outcome next →
    (pushed : ℕ → List Datum) → HavePushed w pushed → HavePushed next (and_pushed pushed outcome event)
step_pushed limits w event Done next s pushed h = subst (λ v. HavePushed v (and_pushed pushed Done event)) (sym s.2) (event_pushed w event pushed h)
step_pushed limits w event (Refused cause) next s pushed h =
    subst (λ v. HavePushed v (and_pushed pushed (Refused cause) event)) (sym s.2) (nothing_more w pushed h)
step_pushed limits w event Gone next s pushed h = subst (λ v. HavePushed v (and_pushed pushed Gone event)) (sym s.1) (nothing_more w pushed h)

run_pushed : (limits : Bounds) (w : World) (events : List WorldEvent) (last : World) (run : Run limits w events last) (pushed : ℕ → List Datum) →
    HavePushed w pushed → HavePushed last (λ i. pushed i ++ pushed_in i limits w events last run)
run_pushed limits w [] last run pushed h = subst (λ v. HavePushed v (λ i. pushed i ++ [])) (sym run) (nothing_more w pushed h)
run_pushed limits w (event ∷ events) last (outcome, next, s, run) pushed h = λ i c e.
    run_pushed limits next events last run (and_pushed pushed outcome event) (step_pushed limits w event outcome next s pushed h) i c e ∙
    append_assoc (pushed i) (pushed_by i outcome event) (pushed_in i limits next events last run)

pub pushes_are_of_events : PushesAreOfEvents
pushes_are_of_events limits n events w run i c e =
    run_pushed limits (new_world n) events w run (λ j. []) (λ j b at. ap pushes_sent (new_at n j b at)) i c e

pub shown_pushes_are_of_events : ShownPushesAreOfEvents
shown_pushes_are_of_events limits n events w run i c e =
    subst (IsBeginning (shown_pushes c)) (pushes_are_of_events limits n events w run i c e) (what_is_shown_was_sent c).1
