-- A world in which nothing was asked.
use Rattle.std.proofs.Common.{◌≡◌, ◌⊎◌, inl, inr, ◌≢◌, eqb, ℕ, zero, suc, ◌+◌, ◌<◌, ◌≤◌, ◌==◌, Bool, true, false, cond, None, Some, List, [], ◌∷◌, ◌++◌, length, slice_get, refl, sym, ap, subst, ◌∙◌, arith, length-append, IsErrOf, Err}
use Rattle.std.proofs.lemmas.Bool.{eq-eqb}
use Rattle.std.proofs.lemmas.Bool.Decides.{eqb_tells}
use Rattle.std.proofs.lemmas.Option.{slice_get_within}
use Rattle.std.specs.Map.{lookup}
use Rattle.resp_value.specs.Bounds.{Bounds, AreBounds}
use Rattle.resp_value.specs.declared.version.Version.TheVariants.{Two}
use Rattle.resp_session.specs.Connections.{Connection, new_connection}
use Rattle.resp_session.specs.Worlds.{connection_at, new_connections, new_world}
use Rattle.resp_server.specs.Hubs.{HubState, HasNoSessionLeft, IsOpened, Seat, seat_at}
use Rattle.resp_server.specs.Reading.{HasReadFront, Reading}
use Rattle.resp_server.specs.declared.error.OpenError.{OpenError}
use Rattle.resp_server.specs.declared.error.OpenError.TheVariants.{TooManySessions, OutOfMemory}
use Rattle.resp_client.specs.Clients.{ClientState, queued}
use Rattle.resp_wire.specs.Ends.{IsNew}
use Rattle.resp_wire.specs.Happening.{AreOpened}
use Rattle.resp_wire.specs.Worlds.{ShowsClient, ShowsEach}
use Rattle.resp_wire.specs.declared.end.End.{End}
use Rattle.resp_wire.proofs.worlds.Places.{never_gone}

new_at : (n k : ℕ) (c : Connection) → connection_at (new_connections n) (suc k) ≡ Some c → c ≡ new_connection
new_at zero k c e = absurd (cc)
new_at (suc n) zero c e = cc
new_at (suc n) (suc k) c e = new_at n k c e

as_many_new : (n : ℕ) → length (new_connections n) ≡ n
as_many_new zero = refl
as_many_new (suc n) = ap suc (as_many_new n)

new_shown : (limits : Bounds) (hub : HubState) (k : ℕ) (e : End) (decoder : Reading) → IsNew limits e → HasReadFront decoder [] →
    seat_at hub (suc k) ≡ Some (record { version = Two; out = []; closing = false; decoder = decoder }) →
    ShowsClient limits (seat_at hub (suc k)) e new_connection
new_shown limits hub k e decoder new nothing there = record {
  asked = new.asked;
  replies = new.replies;
  pushes = new.pushes;
  dropped = new.is_open;
  gone = never_gone new_connection _ refl;
  stands = λ _. record {
    session = record { version = Two; out = []; closing = false; decoder = decoder };
    there = there;
    version = refl;
    is_open = refl;
    answers = refl;
    front = [];
    taking = nothing;
    unfinished = record { front = []; spelled = refl; whole = refl };
    same_limits = ap (λ (s : ClientState). s.limits) new.state;
    asks = ap (λ (s : ClientState). s.out) new.state;
    same_count = ap queued new.state;
    text = [];
    rest = [];
    reads = (refl, ap (λ (s : ClientState). s.waiting) new.state);
    whole = refl;
    reading = new.nothing_taken;
  };
}

-- the clients and sessions of a world that was opened stand as new ones
pub opened_shows : (limits : Bounds) (old hub : HubState) (ends : List End) (n : ℕ) → AreBounds limits → n ≤ 65536 → old.limits ≡ limits → old.store ≡ [] →
    AreOpened limits old hub ends n → ShowsEach limits hub ends [] (new_world n)
opened_shows limits old hub ends n bounds few same_limits no_store o = record {
  n = n;
  events = [];
  run = refl;
  possible = tt;
  few = omega (arith, few);
  bounds = bounds;
  same_limits = o.same_limits ∙ same_limits;
  store = o.same_store ∙ no_store;
  ordered = refl;
  as_many = o.as_many ∙ sym (as_many_new n);
  each = λ k e c here its.
      let within : k < length ends = slice_get_within ends k e here in
      let count = o.as_many in
      let (decoder, nothing, there) = o.each_seat k (omega (arith, within, count)) in
      subst (ShowsClient limits (seat_at hub (suc k)) e) (sym (new_at n k c its)) (new_shown limits hub k e decoder (o.each_end k e here) nothing there);
}

-- of a hub without a session none was opened
pub none_opened : (limits : Bounds) (hub : HubState) → (hub.sessions ≡ []) × (hub.last ≡ 0) → AreOpened limits hub hub [] 0
none_opened limits hub nothing = record {
  same_limits = refl;
  same_store = refl;
  last = nothing.1;
  few = ap length nothing.0;
  as_many = refl;
  none_else = λ id beyond. ap (λ l. lookup (λ x. id == x) l) nothing.0;
  each_end = λ k e here. absurd (cc);
  each_seat = λ k within. absurd (omega (arith, within));
}

not_full : (limits : Bounds) (old hub : HubState) (ends : List End) (count : ℕ) → AreOpened limits old hub ends count → count < 65536 → HasNoSessionLeft hub → ⊥
not_full limits old hub ends count o few (inl sessions) = let so_many = o.few in omega (arith, few, so_many, sessions)
not_full limits old hub ends count o few (inr ids) = let last = o.last in omega (arith, few, last, ids)

-- a hub that is not full refuses a session when out of memory alone
pub memory_alone : (limits : Bounds) (old hub : HubState) (ends : List End) (count : ℕ) (error : OpenError) → AreOpened limits old hub ends count →
    count < 65536 → (IsErrOf {T = ℕ} {E = OpenError} (Err error) TooManySessions → HasNoSessionLeft hub) → error ≡ OutOfMemory
memory_alone limits old hub ends count OutOfMemory o few full = refl
memory_alone limits old hub ends count TooManySessions o few full = absurd (not_full limits old hub ends count o few (full refl))

still_there_by : (id : ℕ) (d e : ℕ × Seat) (es : List (ℕ × Seat)) (s : Seat) (here : Bool) → (lookup (λ other. id == other) es ≡ Some s →
    lookup (λ other. id == other) (es ++ e ∷ []) ≡ Some s) →
    cond here (Some d.1) (lookup (λ other. id == other) es) ≡ Some s →
    cond here (Some d.1) (lookup (λ other. id == other) (es ++ e ∷ [])) ≡ Some s
still_there_by id d e es s true later found = found
still_there_by id d e es s false later found = later found

-- a session that is there stays where one is opened after
still_there : (id : ℕ) (es : List (ℕ × Seat)) (e : ℕ × Seat) (s : Seat) → lookup (λ other. id == other) es ≡ Some s →
    lookup (λ other. id == other) (es ++ e ∷ []) ≡ Some s
still_there id [] e s found = absurd (cc)
still_there id (d ∷ es) e s found = still_there_by id d e es s (id == d.0) (still_there id es e s) found

found_after_by : (id : ℕ) (d e : ℕ × Seat) (es : List (ℕ × Seat)) (here : Bool) → (lookup (λ other. id == other) es ≡ None →
    lookup (λ other. id == other) (es ++ e ∷ []) ≡ cond (id == e.0) (Some e.1) None) →
    cond here (Some d.1) (lookup (λ other. id == other) es) ≡ None →
    cond here (Some d.1) (lookup (λ other. id == other) (es ++ e ∷ [])) ≡ cond (id == e.0) (Some e.1) None
found_after_by id d e es true later none = absurd (cc)
found_after_by id d e es false later none = later none

-- what isn't there is found after
found_after : (id : ℕ) (es : List (ℕ × Seat)) (e : ℕ × Seat) → lookup (λ other. id == other) es ≡ None →
    lookup (λ other. id == other) (es ++ e ∷ []) ≡ cond (id == e.0) (Some e.1) None
found_after id [] e none = refl
found_after id (d ∷ es) e none = found_after_by id d e es (id == d.0) (found_after id es e) none

slice_after : {X : Type 0} (xs : List X) (x y : X) (k : ℕ) → slice_get (xs ++ x ∷ []) k ≡ Some y →
    (slice_get xs k ≡ Some y) ⊎ ((k ≡ length xs) × (x ≡ y))
slice_after {X} [] x y zero e = let same : x ≡ y = cc in inr (refl, same)
slice_after {X} [] x y (suc k) e = absurd (cc)
slice_after {X} (z ∷ zs) x y zero e = inl e
slice_after {X} (z ∷ zs) x y (suc k) e = elim (slice_after zs x y k e) as (λ _. (slice_get zs k ≡ Some y) ⊎ ((suc k ≡ suc (length zs)) × (x ≡ y))) [
  | inl h ↦ inl h
  | inr h ↦ inr (ap suc h.0, h.1)
]

differs_by : (a b : ℕ) → (a ≡ b → ⊥) → ((eqb a b ≡ true) × (a ≡ b)) ⊎ ((eqb a b ≡ false) × (a ≢ b)) → eqb a b ≡ false
differs_by a b apart (inl h) = absurd (apart h.1)
differs_by a b apart (inr h) = h.0

differs : (a b : ℕ) → (a ≡ b → ⊥) → eqb a b ≡ false
differs a b apart = differs_by a b apart (eqb_tells a b)

each_session : (limits : Bounds) (old mid new : HubState) (ends : List End) (count id : ℕ) (e : End) → AreOpened limits old mid ends count →
    (opened : IsOpened mid new id) →
    new.sessions ≡ mid.sessions ++ (id, record { version = Two; out = []; closing = false; decoder = opened.decoder }) ∷ [] → id ≡ suc count →
    (k : ℕ) → k < count + 1 → ((eqb k count ≡ true) × (k ≡ count)) ⊎ ((eqb k count ≡ false) × (k ≢ count)) → (decoder : Reading) ×
    HasReadFront decoder [] × (seat_at new (suc k) ≡ Some (record { version = Two; out = []; closing = false; decoder = decoder }))
each_session limits old mid new ends count id e o opened sessions id_is k within (inl h) =
    let seat : Seat = record { version = Two; out = []; closing = false; decoder = opened.decoder } in
    let same : suc k ≡ id = ap suc h.1 ∙ sym id_is in
    let was : seat_at mid (suc k) ≡ None = o.none_else (suc k) (let is = h.1 in omega (arith, is)) in (
      opened.decoder,
      opened.nothing_taken,
      ap (λ l. lookup (λ x. suc k == x) l) sessions ∙ found_after (suc k) mid.sessions (id, seat) was ∙
          ap (λ b. cond b (Some seat) None) (eq-eqb (suc k) id same),
    )
each_session limits old mid new ends count id e o opened sessions id_is k within (inr h) =
    let seat : Seat = record { version = Two; out = []; closing = false; decoder = opened.decoder } in
    let apart = h.1 in
    let (decoder, nothing, there) = o.each_seat k (omega (arith, within, apart)) in (
      decoder,
      nothing,
      ap (λ l. lookup (λ x. suc k == x) l) sessions ∙
          still_there (suc k) mid.sessions (id, seat) (record { version = Two; out = []; closing = false; decoder = decoder }) there,
    )

-- one more client and its session
pub one_more_opened : (limits : Bounds) (old mid new : HubState) (ends : List End) (count id : ℕ) (e : End) → AreOpened limits old mid ends count →
    IsOpened mid new id → IsNew limits e → AreOpened limits old new (ends ++ e ∷ []) (count + 1)
one_more_opened limits old mid new ends count id e o opened is_new =
    let seat : Seat = record { version = Two; out = []; closing = false; decoder = opened.decoder } in
    let last = o.last in
    let next = opened.next in
    let id_is : id ≡ suc count = omega (arith, last, next) in
    let now = opened.state in
    let more : length (mid.sessions ++ (id, seat) ∷ []) ≡ length mid.sessions + 1 = length-append mid.sessions ((id, seat) ∷ []) in
    let one_end : length (ends ++ e ∷ []) ≡ length ends + 1 = length-append ends (e ∷ []) in
    let were = o.few in
    let ended = o.as_many in
    let sessions : new.sessions ≡ mid.sessions ++ (id, seat) ∷ [] = ap (λ (h : HubState). h.sessions) now in
    record {
      same_limits = ap (λ (h : HubState). h.limits) now ∙ o.same_limits;
      same_store = ap (λ (h : HubState). h.store) now ∙ o.same_store;
      last = ap (λ (h : HubState). h.last) now ∙ (omega (arith, last, next));
      few = ap length sessions ∙ (omega (arith, more, were));
      as_many = omega (arith, one_end, ended);
      none_else = λ other beyond.
          let was : seat_at mid other ≡ None = o.none_else other (omega (arith, beyond)) in
          let apart : eqb other id ≡ false = differs other id (λ same. omega (arith, same, beyond, id_is)) in
          ap (λ l. lookup (λ x. other == x) l) sessions ∙ found_after other mid.sessions (id, seat) was ∙ ap (λ b. cond b (Some seat) None) apart;
      each_end = λ k d here. elim (slice_after ends e d k here) as (λ _. IsNew limits d) [
        | inl h ↦ o.each_end k d h
        | inr h ↦ subst (IsNew limits) h.1 is_new
      ];
      each_seat = λ k within. each_session limits old mid new ends count id e o opened sessions id_is k within (eqb_tells k count);
    }
