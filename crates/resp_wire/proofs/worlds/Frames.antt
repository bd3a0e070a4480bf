-- An event of one client leaves the others as they stand.
use Rattle.std.proofs.Common.{◌≡◌, ◌⊎◌, inl, inr, ℕ, suc, ◌<◌, true, false, Some, List, [], ◌∷◌, ◌++◌, length, length-set, eqb, set, slice_get, refl, sym, ap, subst, ◌∙◌, arith}
use Rattle.std.proofs.lemmas.Bool.Decides.{eqb_tells}
use Rattle.std.specs.List.{AllByRecursion}
use Rattle.resp_value.specs.Bounds.{Bounds}
use Rattle.resp_session.specs.Connections.{Connection}
use Rattle.resp_session.specs.Runs.{Done, Outcome, Run, Step}
use Rattle.resp_session.specs.Serving.{clients_in}
use Rattle.resp_session.specs.WorldLaws.{IsPossible}
use Rattle.resp_session.specs.Worlds.{World, WorldEvent, connection_at, new_world}
use Rattle.resp_server.specs.Hubs.{HubState, seat_at}
use Rattle.resp_wire.specs.Worlds.{ShowsClient, ShowsEach}
use Rattle.resp_wire.specs.declared.end.End.{End}
use Rattle.resp_wire.proofs.worlds.Places.{others_there, set_there}

-- a run goes on by an event
pub run_on : (limits : Bounds) (w u v : World) (events : List WorldEvent) (event : WorldEvent) (outcome : Outcome) → Run limits w events u →
    Step limits u event outcome v → Run limits w (events ++ event ∷ []) v
run_on limits w u v [] event outcome r s = (outcome, v, subst (λ z. Step limits z event outcome v) r s, refl)
run_on limits w u v (first ∷ events) event outcome r s =
    let (o, next, t, more) = r in (o, next, t, run_on limits next u v events event outcome more s)

pub possible_on : (events : List WorldEvent) (event : WorldEvent) → AllByRecursion IsPossible events → IsPossible event →
    AllByRecursion IsPossible (events ++ event ∷ [])
possible_on [] event all one = (one, tt)
possible_on (first ∷ events) event all one = (all.0, possible_on events event all.1 one)

-- the run after an event that happened
pub record Beyond (limits : Bounds) (n : ℕ) (w : World) : Type 0 where
  pub events : List WorldEvent
  pub run : Run limits (new_world n) events w
  pub possible : AllByRecursion IsPossible events

pub beyond : (limits : Bounds) (hub : HubState) (ends : List End) (order : List ℕ) (w next : World) (event : WorldEvent) →
    (at : ShowsEach limits hub ends order w) → Step limits w event Done next → IsPossible event → Beyond limits at.n next
beyond limits hub ends order w next event at s possible = record {
  events = at.events ++ event ∷ [];
  run = run_on limits (new_world at.n) w next at.events event Done at.run s;
  possible = possible_on at.events event at.possible possible;
}

-- what an event changes apart from its client
pub record IsFramed (i : ℕ) (hub hub' : HubState) (w next : World) : Type 0 where
  pub limits : hub'.limits ≡ hub.limits
  pub store : hub'.store ≡ next.store
  pub as_many : length next.connections ≡ length w.connections
  pub others : (j : ℕ) → (j ≡ suc i → ⊥) → connection_at next.connections j ≡ connection_at w.connections j
  pub seats : (j : ℕ) → (j ≡ suc i → ⊥) → seat_at hub' j ≡ seat_at hub j

one_client : (limits : Bounds) (hub hub' : HubState) (ends : List End) (order : List ℕ) (w next : World) (i : ℕ) (e' : End) (c' : Connection) →
    (at : ShowsEach limits hub ends order w) → IsFramed i hub hub' w next → i < length ends → connection_at next.connections (suc i) ≡ Some c' →
    ShowsClient limits (seat_at hub' (suc i)) e' c' → (k : ℕ) (e : End) (c : Connection) → slice_get (set ends i e') k ≡ Some e →
    connection_at next.connections (suc k) ≡ Some c → ((eqb k i ≡ true) × (k ≡ i)) ⊎ ((eqb k i ≡ false) × (k ≡ i → ⊥)) →
    ShowsClient limits (seat_at hub' (suc k)) e c
one_client limits hub hub' ends order w next i e' c' at f within there one k e c here its (inl same) =
    let e_is : Some e' ≡ Some e = sym (set_there ends i e' within) ∙ ap (slice_get (set ends i e')) (sym same.1) ∙ here in
    let c_is : Some c' ≡ Some c = sym there ∙ ap (λ j. connection_at next.connections (suc j)) (sym same.1) ∙ its in
    let e_same : e' ≡ e = cc in
    let c_same : c' ≡ c = cc in
    subst (λ j. ShowsClient limits (seat_at hub' (suc j)) e c) (sym same.1)
    (subst (λ x. ShowsClient limits (seat_at hub' (suc i)) x c) e_same (subst (ShowsClient limits (seat_at hub' (suc i)) e') c_same one))
one_client limits hub hub' ends order w next i e' c' at f within there one k e c here its (inr differs) =
    let apart : suc k ≡ suc i → ⊥ = λ same. differs.1 (omega (arith, same)) in
    subst (λ seat. ShowsClient limits seat e c) (sym (f.seats (suc k) apart))
    (at.each k e c (sym (others_there ends i k e' differs.1) ∙ here) (sym (f.others (suc k) apart) ∙ its))

-- after an event that happened each client shows what its connection shows, where its own client does
pub framed : (limits : Bounds) (hub hub' : HubState) (ends : List End) (order order' : List ℕ) (w next : World) (i : ℕ) (e' : End) (c' : Connection) →
    (at : ShowsEach limits hub ends order w) → Beyond limits at.n next → IsFramed i hub hub' w next → order' ≡ clients_in next → i < length ends →
    connection_at next.connections (suc i) ≡ Some c' → ShowsClient limits (seat_at hub' (suc i)) e' c' →
    ShowsEach limits hub' (set ends i e') order' next
framed limits hub hub' ends order order' w next i e' c' at b f ordered within there one = record {
  n = at.n;
  events = b.events;
  run = b.run;
  possible = b.possible;
  few = at.few;
  bounds = at.bounds;
  same_limits = f.limits ∙ at.same_limits;
  store = f.store;
  ordered = ordered;
  as_many = length-set ends i e' ∙ at.as_many ∙ sym f.as_many;
  each = λ k e c here its. one_client limits hub hub' ends order w next i e' c' at f within there one k e c here its (eqb_tells k i);
}

-- where nothing changes but what a client has that isn't shown, the world stands as it stood
pub kept : (limits : Bounds) (hub : HubState) (ends : List End) (order : List ℕ) (w : World) (i : ℕ) (e' : End) (c : Connection) →
    ShowsEach limits hub ends order w → i < length ends → connection_at w.connections (suc i) ≡ Some c →
    ShowsClient limits (seat_at hub (suc i)) e' c → ShowsEach limits hub (set ends i e') order w
kept limits hub ends order w i e' c at within there one =
    framed limits hub hub ends order order w w i e' c at (record { events = at.events; run = at.run; possible = at.possible })
    (record { limits = refl; store = at.store; as_many = refl; others = λ j other. refl; seats = λ j other. refl }) at.ordered within there one
