-- What a world shows of its parts.
use Rattle.std.proofs.Common.{◌≡◌, ◌⊎◌, inl, inr, ℕ, zero, suc, ◌-◌, ◌<◌, ◌≤◌, true, None, Some, Option, IfSome, List, [], ◌∷◌, length, slice_get, slice_index_or, refl, sym, ap, subst, ◌∙◌, arith}
use Rattle.resp_value.specs.Bounds.{Bounds}
use Rattle.resp_value.specs.declared.cause.Cause.{Cause}
use Rattle.resp_session.specs.Connections.{Connection}
use Rattle.resp_session.specs.Runs.{is_gone}
use Rattle.resp_session.specs.Worlds.{World, WorldEvent, client_of, connection_at}
use Rattle.resp_server.specs.Hubs.{seat_at}
use Rattle.resp_wire.specs.Happening.{Happens}
use Rattle.resp_wire.specs.Worlds.{Shows, ShowsClient, StopsBy, WorldState}
use Rattle.resp_wire.specs.declared.end.End.{End}
use Rattle.resp_wire.specs.declared.event.Outcome.TheVariants as outcome
use Rattle.resp_wire.proofs.worlds.Places.{none_beyond}

if_there : (o : Option Connection) (P : Connection → Type 0) → ((c : Connection) → o ≡ Some c → P c) → IfSome o P
if_there None P f = tt
if_there (Some c) P f = f c refl

-- what stands at an index is there
pub index_there : {X : Type 0} (xs : List X) (k : ℕ) (d : X) → k < length xs → slice_get xs k ≡ Some (slice_index_or xs k d)
index_there {X} [] k d within = absurd (omega (arith, within))
index_there {X} (x ∷ xs) zero d within = refl
index_there {X} (x ∷ xs) (suc k) d within = index_there xs k d (omega (arith, within))

-- and so is an end
pub end_there : (ends : List End) (number : ℕ) (e : End) → (1 ≤ number) × (number ≤ length ends) → e ≡ slice_index_or ends (number - 1) e →
    slice_get ends (number - 1) ≡ Some e
end_there ends number e within is =
    let (one, most) = within in
    index_there ends (number - 1) e (omega (arith, one, most)) ∙ ap Some (sym is)

-- a client shows what its connection shows
pub client_shows : {L : Type 0} (is_honest : L → Type 0) (s : WorldState L) (limits : Bounds) (w : World) → Shows is_honest s limits w →
    (number : ℕ) (e : End) → 1 ≤ number → slice_get s.ends (number - 1) ≡ Some e → (c : Connection) → connection_at w.connections number ≡ Some c →
    ShowsClient limits (seat_at s.hub number) e c
client_shows {L} is_honest s limits w shown number e one here c its =
    let same : suc (number - 1) ≡ number = omega (arith, one) in
    subst (λ n. ShowsClient limits (seat_at s.hub n) e c) same
    (shown.each.each (number - 1) e c here (ap (connection_at w.connections) same ∙ its))

-- and so does a fact of it
pub of_client : {L : Type 0} (is_honest : L → Type 0) (s inside : WorldState L) (number : ℕ) (e : End) (P : Connection → Type 0) → s ≡ inside →
    (1 ≤ number) × (number ≤ length s.ends) → e ≡ slice_index_or inside.ends (number - 1) e →
    ((limits : Bounds) (c : Connection) → ShowsClient limits (seat_at s.hub number) e c → P c) →
    (limits : Bounds) (w : World) → Shows is_honest s limits w → IfSome (connection_at w.connections number) P
of_client {L} is_honest s inside number e P same within at_inside f limits w shown =
    let is : e ≡ slice_index_or s.ends (number - 1) e = at_inside ∙ ap (λ (z : WorldState L). slice_index_or z.ends (number - 1) e) (sym same) in
    if_there (connection_at w.connections number) P
    (λ c its. f limits c (client_shows is_honest s limits w shown number e within.0 (end_there s.ends number e within is) c its))

none_at_zero : (cs : List Connection) → connection_at cs 0 ≡ None
none_at_zero [] = refl
none_at_zero (c ∷ cs) = refl

-- an event of no client's number is of nobody
pub nobody : {L : Type 0} (is_honest : L → Type 0) (s : WorldState L) (event : WorldEvent) →
    (client_of event ≡ 0) ⊎ (length s.ends < client_of event) → Happens is_honest s s event outcome.Gone
nobody {L} is_honest s event (inl zeroth) limits w shown =
    (w, (ap is_gone (ap (connection_at w.connections) zeroth ∙ none_at_zero w.connections), refl), shown)
nobody {L} is_honest s event (inr beyond) limits w shown =
    let as_many = shown.each.as_many in
    (w, (ap is_gone (none_beyond w.connections (client_of event) (omega (arith, as_many, beyond))), refl), shown)

gone_by : (o : Option Connection) → ((c : Connection) → o ≡ Some c → c.dropped ≡ true) → is_gone o ≡ true
gone_by None f = refl
gone_by (Some c) f = f c refl

-- and so is one of a client that was dropped
pub of_dropped : {L : Type 0} (is_honest : L → Type 0) (s inside : WorldState L) (event : WorldEvent) (number : ℕ) (e : End) → s ≡ inside →
    number ≡ client_of event → (1 ≤ number) × (number ≤ length s.ends) → e ≡ slice_index_or inside.ends (number - 1) e → e.is_dropped ≡ true →
    Happens is_honest s s event outcome.Gone
of_dropped {L} is_honest s inside event number e same its_number within at_inside dropped limits w shown =
    let is : e ≡ slice_index_or s.ends (number - 1) e = at_inside ∙ ap (λ (z : WorldState L). slice_index_or z.ends (number - 1) e) (sym same) in
    let at_number : is_gone (connection_at w.connections number) ≡ true =
    gone_by (connection_at w.connections number) (λ c its.
    sym (client_shows is_honest s limits w shown number e within.0 (end_there s.ends number e within is) c its).dropped ∙ dropped) in
    (w, (ap (λ n. is_gone (connection_at w.connections n)) (sym its_number) ∙ at_number, refl), shown)

-- why a world stops tells of its links alone
pub stops_inside : {L : Type 0} (failures : L → ℕ) (old s inside : WorldState L) (cause : Cause) → s ≡ inside →
    StopsBy failures old.links s.links cause → StopsBy failures old.links inside.links cause
stops_inside {L} failures old s inside cause same stops = subst (λ (z : WorldState L). StopsBy failures old.links z.links cause) same stops
