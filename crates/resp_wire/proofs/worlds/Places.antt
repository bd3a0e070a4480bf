-- Clients by their indices, and sessions by their ids.
use Rattle.std.proofs.Common.{◌≡◌, ℕ, zero, suc, ◌<◌, ◌==◌, Bool, true, false, cond, None, Some, Option, List, [], ◌∷◌, length, set, slice_get, refl, sym, ap, ◌∙◌, arith}
use Rattle.std.proofs.lemmas.Bool.{eqb-true}
use Rattle.std.specs.Map.{lookup}
use Rattle.resp_session.specs.Connections.{Connection}
use Rattle.resp_session.specs.Worlds.{connection_at}
use Rattle.resp_value.specs.declared.cause.Cause.{Cause}
use Rattle.resp_server.specs.Hubs.{HubState, Seat, seat_at, seated, with_seat, without_seat}
use Rattle.resp_wire.specs.Worlds.{WorldState}
use Rattle.resp_wire.specs.declared.end.End.{End}

-- an open connection was not dropped
pub never_gone : (c : Connection) (P : Type 0) → c.dropped ≡ false → c.dropped ≡ true → P
never_gone c P is_open gone = let never : false ≡ true = sym is_open ∙ gone in absurd (cc)

-- a world of these parts
abbrev pub world_of : {L : Type 0} → HubState → List End → List L → List ℕ → Option Cause → WorldState L
world_of {L} hub ends links order stopped = record { hub = hub; ends = ends; links = links; order = order; stopped = stopped }

-- what was set is there
pub set_there : {X : Type 0} (xs : List X) (i : ℕ) (x : X) → i < length xs → slice_get (set xs i x) i ≡ Some x
set_there {X} [] i x within = absurd (omega (arith, within))
set_there {X} (y ∷ ys) zero x within = refl
set_there {X} (y ∷ ys) (suc i) x within = set_there ys i x (omega (arith, within))

-- and the others stay
pub others_there : {X : Type 0} (xs : List X) (i j : ℕ) (x : X) → (j ≡ i → ⊥) → slice_get (set xs i x) j ≡ slice_get xs j
others_there {X} [] i j x other = refl
others_there {X} (y ∷ ys) zero zero x other = absurd (other refl)
others_there {X} (y ∷ ys) zero (suc j) x other = refl
others_there {X} (y ∷ ys) (suc i) zero x other = refl
others_there {X} (y ∷ ys) (suc i) (suc j) x other = others_there ys i j x (λ e. other (ap suc e))

-- of each index within there is a connection, by the number after it
pub connection_there : (cs : List Connection) (k : ℕ) → k < length cs → (c : Connection) × (connection_at cs (suc k) ≡ Some c)
connection_there [] k within = absurd (omega (arith, within))
connection_there (c ∷ cs) zero within = (c, refl)
connection_there (c ∷ cs) (suc k) within = connection_there cs k (omega (arith, within))

-- and of none beyond
pub none_beyond : (cs : List Connection) (k : ℕ) → length cs < k → connection_at cs k ≡ None
none_beyond [] k beyond = refl
none_beyond (c ∷ cs) zero beyond = refl
none_beyond (c ∷ cs) (suc zero) beyond = absurd (omega (arith, beyond))
none_beyond (c ∷ cs) (suc (suc k)) beyond = none_beyond cs (suc k) (omega (arith, beyond))

elsewhere_by : (i j : ℕ) (e : ℕ × Seat) (es : List (ℕ × Seat)) (s : Seat) → (j ≡ i → ⊥) → (here there : Bool) → (i == e.0) ≡ here →
    (j == e.0) ≡ there → lookup (λ other. j == other) (with_seat es i s) ≡ lookup (λ other. j == other) es →
    lookup (λ other. j == other) (cond here ((e.0, s) ∷ es) (e ∷ with_seat es i s)) ≡ lookup (λ other. j == other) (e ∷ es)
elsewhere_by i j e es s other true true is that later = absurd (other (eqb-true j e.0 that ∙ sym (eqb-true i e.0 is)))
elsewhere_by i j e es s other true false is that later =
    ap (λ b. cond b (Some s) (lookup (λ other. j == other) es)) that ∙ sym (ap (λ b. cond b (Some e.1) (lookup (λ other. j == other) es)) that)
elsewhere_by i j e es s other false there is that later = ap (λ o. cond (j == e.0) (Some e.1) o) later

elsewhere_in : (i j : ℕ) (es : List (ℕ × Seat)) (s : Seat) → (j ≡ i → ⊥) →
    lookup (λ other. j == other) (with_seat es i s) ≡ lookup (λ other. j == other) es
elsewhere_in i j [] s other = refl
elsewhere_in i j (e ∷ es) s other = elsewhere_by i j e es s other (i == e.0) (j == e.0) refl refl (elsewhere_in i j es s other)

-- a change of a session leaves the others
pub seats_elsewhere : (hub : HubState) (i j : ℕ) (s : Seat) → (j ≡ i → ⊥) → seat_at (seated hub i s) j ≡ seat_at hub j
seats_elsewhere hub i j s other = elsewhere_in i j hub.sessions s other

left_by : (i j : ℕ) (e : ℕ × Seat) (es : List (ℕ × Seat)) → (j ≡ i → ⊥) → (here there : Bool) → (i == e.0) ≡ here → (j == e.0) ≡ there →
    lookup (λ other. j == other) (without_seat es i) ≡ lookup (λ other. j == other) es →
    lookup (λ other. j == other) (cond here es (e ∷ without_seat es i)) ≡ lookup (λ other. j == other) (e ∷ es)
left_by i j e es other true true is that later = absurd (other (eqb-true j e.0 that ∙ sym (eqb-true i e.0 is)))
left_by i j e es other true false is that later = sym (ap (λ b. cond b (Some e.1) (lookup (λ other. j == other) es)) that)
left_by i j e es other false there is that later = ap (λ o. cond (j == e.0) (Some e.1) o) later

left_in : (i j : ℕ) (es : List (ℕ × Seat)) → (j ≡ i → ⊥) → lookup (λ other. j == other) (without_seat es i) ≡ lookup (λ other. j == other) es
left_in i j [] other = refl
left_in i j (e ∷ es) other = left_by i j e es other (i == e.0) (j == e.0) refl refl (left_in i j es other)

-- and so does its end
pub seats_left : (hub : HubState) (i j : ℕ) → (j ≡ i → ⊥) → seat_at (record hub { sessions = without_seat hub.sessions i }) j ≡ seat_at hub j
seats_left hub i j other = left_in i j hub.sessions other
