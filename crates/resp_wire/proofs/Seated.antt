-- A hub with another session in the place of one.
use Rattle.std.proofs.Common.{arith, length, ◌≤◌, ◌≡◌, ℕ, ◌==◌, Bool, true, false, cond, Option, None, Some, List, [], ◌∷◌, IfSome, refl, sym, ap, subst, ◌∙◌}
use Rattle.std.proofs.lemmas.List.{length-append}
use Rattle.resp_server.specs.Handling.{WhereOpen}
use Rattle.resp_server.specs.Hubs.{HubState, Seat, WaitsAtMost, seat_at, seated, with_seat}
use Rattle.resp_server.specs.Reading.{HasReadFront}
use Rattle.resp_server.proofs.Seats.{put_there, with_same}
use Rattle.resp_server.specs.Sending.{HasSent}

-- there stands then the new session
pub seat_here : (hub : HubState) (id : ℕ) (old new : Seat) → seat_at hub id ≡ Some old → seat_at (seated hub id new) id ≡ Some new
seat_here hub id old new found = put_there hub.sessions id old new found

twice_by : (id : ℕ) (e : ℕ × Seat) (es : List (ℕ × Seat)) (a b : Seat) (here : Bool) → (id == e.0) ≡ here →
    with_seat (with_seat es id a) id b ≡ with_seat es id b →
    with_seat (cond here ((e.0, a) ∷ es) (e ∷ with_seat es id a)) id b ≡ cond here ((e.0, b) ∷ es) (e ∷ with_seat es id b)
twice_by id e es a b true is later = ap (λ c. cond c ((e.0, b) ∷ es) ((e.0, a) ∷ with_seat es id b)) is
twice_by id e es a b false is later =
    ap (λ c. cond c ((e.0, b) ∷ with_seat es id a) (e ∷ with_seat (with_seat es id a) id b)) is ∙ ap (λ l. e ∷ l) later

twice_in : (id : ℕ) (es : List (ℕ × Seat)) (a b : Seat) → with_seat (with_seat es id a) id b ≡ with_seat es id b
twice_in id [] a b = refl
twice_in id (e ∷ es) a b = twice_by id e es a b (id == e.0) refl (twice_in id es a b)

-- of two changes of a session the last one counts
pub seated_twice : (hub : HubState) (id : ℕ) (a b : Seat) → seated (seated hub id a) id b ≡ seated hub id b
seated_twice hub id a b =
    ap (λ sessions. record { limits = hub.limits; sessions = sessions; store = hub.store; last = hub.last }) (twice_in id hub.sessions a b)

-- a session in its own place changes nothing
pub seated_same : (hub : HubState) (id : ℕ) (s : Seat) → seat_at hub id ≡ Some s → hub ≡ seated hub id s
seated_same hub id s here =
    ap (λ sessions. record { limits = hub.limits; sessions = sessions; store = hub.store; last = hub.last }) (sym (with_same hub.sessions id s here))

-- one session stands there
pub one_seat : (o : Option Seat) (a b : Seat) → o ≡ Some a → o ≡ Some b → a ≡ b
one_seat o a b x y = let z = sym x ∙ y in cc

-- what holds of every front of a session that is open
where_by : (hub : HubState) (id : ℕ) (P : Seat → List ℕ → Type 0) (o : Option Seat) → seat_at hub id ≡ o →
    ((s : Seat) → seat_at hub id ≡ Some s → s.closing ≡ false → (front : List ℕ) → HasReadFront s.decoder front → P s front) →
    IfSome o (λ s. s.closing ≡ false → (front : List ℕ) → HasReadFront s.decoder front → P s front)
where_by hub id P None is all = tt
where_by hub id P (Some s) is all = all s is

pub where_open : (hub : HubState) (id : ℕ) (P : Seat → List ℕ → Type 0) →
    ((s : Seat) → seat_at hub id ≡ Some s → s.closing ≡ false → (front : List ℕ) → HasReadFront s.decoder front → P s front) → WhereOpen hub id P
where_open hub id P all = where_by hub id P (seat_at hub id) refl all

pub at_open : (hub : HubState) (id : ℕ) (P : Seat → List ℕ → Type 0) (s : Seat) (front : List ℕ) → WhereOpen hub id P → seat_at hub id ≡ Some s →
    s.closing ≡ false → HasReadFront s.decoder front → P s front
at_open hub id P s front w here is_open taken =
    let all : s.closing ≡ false → (front : List ℕ) → HasReadFront s.decoder front → P s front =
    subst (λ o. IfSome o (λ (t : Seat). t.closing ≡ false → (front : List ℕ) → HasReadFront t.decoder front → P t front)) here w in
    all is_open front taken

-- what follows from what holds of an open session holds of it
pub open_map : (hub : HubState) (id : ℕ) (P Q : Seat → List ℕ → Type 0) → ((s : Seat) (front : List ℕ) → P s front → Q s front) → WhereOpen hub id P →
    WhereOpen hub id Q
open_map hub id P Q f w = where_open hub id Q (λ s here not_closing front taken. f s front (at_open hub id P s front w here not_closing taken))

-- there is a session with this id
abbrev pub IsThere : HubState → ℕ → Type 0
IsThere hub id = (s : Seat) × (seat_at hub id ≡ Some s)

pub not_there : (hub : HubState) (id : ℕ) → IsThere hub id → seat_at hub id ≡ None → ⊥
not_there hub id (s, here) none = let e : Some s ≡ None = sym here ∙ none in absurd (cc)

pub nowhere : (hub : HubState) (id : ℕ) (P : Seat → List ℕ → Type 0) → seat_at hub id ≡ None → WhereOpen hub id P
nowhere hub id P none = where_open hub id P (λ s here not_closing front taken. absurd (not_there hub id (s, here) none))

-- At most so many bytes wait in a session after some were written.

few_by : (o : Option Seat) (seat : Seat) (most : ℕ) → o ≡ Some seat → length seat.out ≤ most → IfSome o (λ s. length s.out ≤ most)
few_by o seat most is few = subst (λ z. IfSome z (λ s. length s.out ≤ most)) (sym is) few

few_in : (o : Option Seat) (seat : Seat) (most : ℕ) → o ≡ Some seat → IfSome o (λ s. length s.out ≤ most) → length seat.out ≤ most
few_in o seat most is few = subst (λ z. IfSome z (λ s. length s.out ≤ most)) is few

pub sent_few : (old new : HubState) (id : ℕ) (held held' : Option (List ℕ)) (waits : List ℕ) (most : ℕ) → HasSent old new id held held' waits →
    WaitsAtMost most old id → WaitsAtMost most new id
sent_few old new id held held' waits most h few =
    let seat : Seat = record { version = h.seat.version; out = waits; closing = h.seat.closing; decoder = h.seat.decoder } in
    let before = few_in (seat_at old id) h.seat most h.here few in
    let size = ap length h.parts ∙ length-append h.text waits in
    few_by (seat_at new id) seat most (ap (λ (g : HubState). seat_at g id) h.state ∙ seat_here old id h.seat seat h.here) (omega (arith, before, size))
