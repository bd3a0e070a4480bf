-- The order of commands only grows.
use Rattle.std.proofs.Common.{◌≡◌, ℕ, List, [], ◌∷◌, ◌++◌, Option, None, Some, sym, ap, subst, ◌∙◌, append_assoc, append-nil}
use Rattle.resp_value.specs.Bounds.{Bounds}
use Rattle.resp_session.specs.Connections.{Connection, new_requests}
use Rattle.resp_session.specs.Worlds.{World, WorldEvent, Send, Greet, ToServer, ToClient, Push, Drop, after_event, after_arrival, after_command, after_commands, commands_for, connection_at}
use Rattle.resp_session.specs.Runs.{Outcome, Done, Refused, Gone, Step, Run}
use Rattle.resp_session.specs.Orders.{IsBeginning}
use Rattle.resp_session.specs.WorldLaws.{TheOrderOnlyGrows}

pub beginning_refl : {X : Type 0} (xs : List X) → IsBeginning xs xs
beginning_refl xs = ([], sym (append-nil xs))

pub beginning_trans : {X : Type 0} (xs ys zs : List X) → IsBeginning xs ys → IsBeginning ys zs → IsBeginning xs zs
beginning_trans xs ys zs (p, e) (q, f) = (p ++ q, f ∙ ap (λ l. l ++ q) e ∙ append_assoc xs p q)

-- the order after commands is the one before, and then these
pub after_commands-order : (w : World) (commands : List (ℕ × List (List ℕ))) → (after_commands w commands).order ≡ w.order ++ commands
after_commands-order w [] = sym (append-nil w.order)
after_commands-order w (c ∷ cs) = after_commands-order (after_command w c) cs ∙ append_assoc w.order (c ∷ []) cs

after_arrival_order : (w : World) (i k : ℕ) (c : Option Connection) → IsBeginning w.order (after_arrival w i k c).order
after_arrival_order w i k None = beginning_refl w.order
after_arrival_order w i k (Some c) = (commands_for i (new_requests k c), after_commands-order _ (commands_for i (new_requests k c)))

after_event_order : (w : World) (event : WorldEvent) → IsBeginning w.order (after_event w event).order
after_event_order w (Send i words) = beginning_refl w.order
after_event_order w (Greet i asked) = beginning_refl w.order
after_event_order w (ToServer i k) = after_arrival_order w i k (connection_at w.connections i)
after_event_order w (ToClient i k) = beginning_refl w.order
after_event_order w (Push i items) = beginning_refl w.order
after_event_order w (Drop i) = beginning_refl w.order

step_order : (limits : Bounds) (w : World) (event : WorldEvent) (outcome : Outcome) (next : World) → Step limits w event outcome next →
    IsBeginning w.order next.order
step_order limits w event Done next s = subst (λ (v : World). IsBeginning w.order v.order) (sym s.2) (after_event_order w event)
step_order limits w event (Refused cause) next s = subst (λ (v : World). IsBeginning w.order v.order) (sym s.2) (beginning_refl w.order)
step_order limits w event Gone next s = subst (λ (v : World). IsBeginning w.order v.order) (sym s.1) (beginning_refl w.order)

run_order : (limits : Bounds) (w : World) (events : List WorldEvent) (last : World) → Run limits w events last → IsBeginning w.order last.order
run_order limits w [] last r = subst (λ (v : World). IsBeginning w.order v.order) (sym r) (beginning_refl w.order)
run_order limits w (event ∷ events) last r =
    let (outcome, next, s, t) = r in
    beginning_trans w.order next.order last.order (step_order limits w event outcome next s) (run_order limits next events last t)

pub the_order_only_grows : TheOrderOnlyGrows
the_order_only_grows limits w v events r = run_order limits w events v r
