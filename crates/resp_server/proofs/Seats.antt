-- A hub's sessions, apart from memory.
use Rattle.std.proofs.Common.{◌≡◌, ℕ, ◌+◌, ◌<◌, ◌≤◌, ◌==◌, ◌++◌, arith, length, Bool, true, false, cond, Option, None, Some, List, [], ◌∷◌, IfSome, refl, sym, ap, subst, ◌∙◌, Greater, is_eq, nat_cmp}
use Rattle.std.specs.Map.{lookup, set_value, remove_entry}
use Rattle.std.specs.Option.{option_map}
use Rattle.std.proofs.lemmas.Bool.{eq-eqb, eqb-true, ne_eqb, cond_both}
use Rattle.std.proofs.lemmas.List.{map-append}
use Rattle.std.specs.BTreeMap.{insert_entry}
use Rattle.std.specs.Cmp.{nat_cmp_is, unsigned_tied}
use Rattle.std.specs.Ordering.{match_ordering}
use Rattle.resp_value.specs.Bounds.{Bounds}
use Rattle.resp_value.specs.Rules.{rules_under}
use Rattle.resp_value.specs.declared.version.Version.TheVariants.{Two}
use Rattle.resp_session.specs.Stores.{Store}
use Rattle.resp_server.specs.declared.session.Session.{Session}
use Rattle.resp_server.specs.Reading.{HasReadFront, HoldsNoIdleDecoder, ReadsBy}
use Rattle.resp_server.specs.Running.{HasSameRest}
use Rattle.resp_server.specs.Hubs.{HubState, Seat, SessionIsSound, WaitsAtMost, AreSound, HubIsSound, seat_of, seats_of, seat_at, with_seat, without_seat, seated}

-- whether a session's id is this one, as the map compares them
abbrev pub is_id : ℕ → ℕ → Bool
is_id id other = is_eq (nat_cmp id other)

-- the hub's state with these sessions
abbrev pub state_of : Bounds → List (ℕ × Session) → Store → ℕ → HubState
state_of limits sessions store last = record { limits = limits; sessions = seats_of sessions; store = store; last = last }

put_by : (b : Bool) (x y : List (ℕ × Session)) → seats_of (cond b x y) ≡ cond b (seats_of x) (seats_of y)
put_by true x y = refl
put_by false x y = refl

-- a session that is written
pub seats-set : (es : List (ℕ × Session)) (id : ℕ) (s : Session) →
    seats_of (set_value (is_id id) es s) ≡ with_seat (seats_of es) id (seat_of s)
seats-set [] id s = refl
seats-set (e ∷ es) id s =
    put_by (is_id id e.0) _ _ ∙ ap (λ rest. cond (is_id id e.0) ((e.0, seat_of s) ∷ seats_of es) ((e.0, seat_of e.1) ∷ rest)) (seats-set es id s) ∙
    ap (λ b. cond b ((e.0, seat_of s) ∷ seats_of es) ((e.0, seat_of e.1) ∷ with_seat (seats_of es) id (seat_of s))) (unsigned_tied id e.0)

found_by : (b : Bool) (x : Session) (rest : Option Session) → option_map seat_of (cond b (Some x) rest) ≡ cond b (Some (seat_of x)) (option_map seat_of rest)
found_by true x rest = refl
found_by false x rest = refl

-- a session that is looked up
pub seats-lookup : (es : List (ℕ × Session)) (id : ℕ) →
    option_map seat_of (lookup (is_id id) es) ≡ lookup (λ other. id == other) (seats_of es)
seats-lookup [] id = refl
seats-lookup (e ∷ es) id =
    found_by (is_id id e.0) e.1 _ ∙ ap (cond (is_id id e.0) (Some (seat_of e.1))) (seats-lookup es id) ∙
    ap (λ b. cond b (Some (seat_of e.1)) (lookup (λ other. id == other) (seats_of es))) (unsigned_tied id e.0)

-- the seat of a session that was found
pub seat_is : (limits : Bounds) (es : List (ℕ × Session)) (store : Store) (last : ℕ) (hub : HubState) → state_of limits es store last ≡ hub →
    {found : Option Session} (id : ℕ) → found ≡ lookup (is_id id) es → seat_at hub id ≡ option_map seat_of found
seat_is limits es store last hub view id is =
    ap (λ (h : HubState). seat_at h id) (sym view) ∙ sym (seats-lookup es id) ∙ ap (option_map seat_of) (sym is)

-- a session's change is its seat's, and nothing else of the hub
pub seated_is : {hub : HubState} (limits : Bounds) (es : List (ℕ × Session)) (store : Store) (last : ℕ) → state_of limits es store last ≡ hub →
    {ns : List (ℕ × Session)} {old : Session} (id : ℕ) (new : Session) → ns ≡ set_value (is_id id) es new → Some old ≡ lookup (is_id id) es →
    (change : Seat → Seat) → seat_of new ≡ change (seat_of old) → IfSome (seat_at hub id) (λ s. state_of limits ns store last ≡ seated hub id (change s))
seated_is {hub} limits es store last view {ns} {old} id new written found change changed =
    let with : List (ℕ × Seat) → HubState = λ seats. record { limits = limits; sessions = seats; store = store; last = last } in
    let after : with (seats_of ns) ≡ seated hub id (change (seat_of old)) = ap (λ xs. with (seats_of xs)) written ∙ ap with (seats-set es id new) ∙
    ap (λ s. with (with_seat (seats_of es) id s)) changed ∙ ap (λ (h : HubState). seated h id (change (seat_of old))) view in
    subst (λ o. IfSome o (λ s. with (seats_of ns) ≡ seated hub id (change s))) (sym (seat_is limits es store last hub view id found)) after

-- a session that was changed is found as it is then
found_changed : {old new : Session} (here : Bool) (e : ℕ × Session) (es : List (ℕ × Session)) (id : ℕ) → is_id id e.0 ≡ here →
    Some old ≡ cond here (Some e.1) (lookup (is_id id) es) → (Some old ≡ lookup (is_id id) es → lookup (is_id id) (set_value (is_id id) es new) ≡ Some new) →
    lookup (is_id id) (cond here ((e.0, new) ∷ es) (e ∷ set_value (is_id id) es new)) ≡ Some new
found_changed {new} true e es id is found later = ap (λ b. cond b (Some new) (lookup (is_id id) es)) is
found_changed {new} false e es id is found later =
    ap (λ b. cond b (Some e.1) (lookup (is_id id) (set_value (is_id id) es new))) is ∙ later found

changed_there : {new : Session} (es : List (ℕ × Session)) (id : ℕ) (old : Session) → Some old ≡ lookup (is_id id) es →
    lookup (is_id id) (set_value (is_id id) es new) ≡ Some new
changed_there [] id old found = absurd (cc)
changed_there (e ∷ es) id old found = found_changed (is_id id e.0) e es id refl found (changed_there es id old)

pub seat_changed : {ns : List (ℕ × Session)} {old : Session} (limits : Bounds) (es : List (ℕ × Session)) (store : Store) (last id : ℕ) (new : Session) →
    ns ≡ set_value (is_id id) es new → Some old ≡ lookup (is_id id) es → seat_at (state_of limits ns store last) id ≡ Some (seat_of new)
seat_changed {ns} {old} limits es store last id new written found =
    sym (seats-lookup ns id) ∙ ap (λ xs. option_map seat_of (lookup (is_id id) xs)) written ∙ ap (option_map seat_of) (changed_there es id old found)

-- what holds of a session before and after a change holds of its seats
pub if_changed : {hub : HubState} (limits : Bounds) (es : List (ℕ × Session)) (store : Store) (last : ℕ) → state_of limits es store last ≡ hub →
    {ns : List (ℕ × Session)} {old : Session} (limits' : Bounds) (store' : Store) (id : ℕ) (new : Session) → ns ≡ set_value (is_id id) es new →
    Some old ≡ lookup (is_id id) es → (P : Seat → Seat → Type 0) → P (seat_of old) (seat_of new) →
    IfSome (seat_at hub id) (λ s. IfSome (seat_at (state_of limits' ns store' last) id) (P s))
if_changed {hub} limits es store last view {ns} {old} limits' store' id new written found P p =
    subst (λ o. IfSome o (λ s. IfSome (seat_at (state_of limits' ns store' last) id) (P s)))
    (sym (seat_is limits es store last hub view id found)) (subst (λ o. IfSome o (P (seat_of old)))
    (sym (seat_changed limits' es store' last id new written found)) p)

-- at most this many bytes wait after a change if at most so many waited before
pub still_few : {hub : HubState} (limits : Bounds) (es : List (ℕ × Session)) (store : Store) (last : ℕ) → state_of limits es store last ≡ hub →
    {ns : List (ℕ × Session)} {old : Session} (limits' : Bounds) (store' : Store) (id : ℕ) (new : Session) → ns ≡ set_value (is_id id) es new →
    Some old ≡ lookup (is_id id) es → (most : ℕ) → (length old.out.items ≤ most → length new.out.items ≤ most) → WaitsAtMost most hub id →
    WaitsAtMost most (state_of limits' ns store' last) id
still_few {hub} limits es store last view limits' store' id new written found most keeps few =
    subst (λ o. IfSome o (λ s. length s.out ≤ most)) (sym (seat_changed limits' es store' last id new written found))
    (keeps (subst (λ o. IfSome o (λ s. length s.out ≤ most)) (seat_is limits es store last hub view id found) few))

-- at most `held` bytes and one reply wait after an answer, whose bytes are kept, if at most so many waited before
pub answer_is_bounded : {hub : HubState} (limits : Bounds) (es : List (ℕ × Session)) (store : Store) (last : ℕ) → state_of limits es store last ≡ hub →
    {ns : List (ℕ × Session)} {old : Session} (limits' : Bounds) (store' : Store) (id : ℕ) (answered new : Session) → ns ≡ set_value (is_id id) es new →
    Some old ≡ lookup (is_id id) es → (held : ℕ) → (length old.out.items ≤ held + limits.total → length answered.out.items ≤ held + limits.total) →
    new.out.items ≡ answered.out.items → WaitsAtMost (held + hub.limits.total) hub id →
    WaitsAtMost (held + hub.limits.total) (state_of limits' ns store' last) id
answer_is_bounded {hub} limits es store last view limits' store' id answered new written found held keeps kept =
    let total = ap (λ (h : HubState). h.limits.total) view in
    let same = ap length kept in
    still_few limits es store last view limits' store' id new written found (held + hub.limits.total)
    (λ few. let after = keeps (omega (arith, few, total)) in omega (arith, after, total, same))

-- what holds of the seat holds of the session that was found
pub if_seated : {hub : HubState} (limits : Bounds) (es : List (ℕ × Session)) (store : Store) (last : ℕ) → state_of limits es store last ≡ hub →
    {old : Session} (id : ℕ) → Some old ≡ lookup (is_id id) es → (P : Seat → Type 0) → IfSome (seat_at hub id) P → P (seat_of old)
if_seated {hub} limits es store last view id found P p = subst (λ o. IfSome o P) (seat_is limits es store last hub view id found) p

-- what stands of the session that was found
sound_here : {limits : Bounds} {last id : ℕ} {old : Session} (e : ℕ × Session) (es : List (ℕ × Session)) (here : Bool) → (id == e.0) ≡ here →
    Some old ≡ cond here (Some e.1) (lookup (is_id id) es) → AreSound limits last (e ∷ es) →
    (Some old ≡ lookup (is_id id) es → SessionIsSound limits last id old) → SessionIsSound limits last id old
sound_here {limits} {last} {id} {old} e es true is found all later =
    let same : old ≡ e.1 = cc in
    subst (λ (s : Session). SessionIsSound limits last id s) (sym same)
    (subst (λ n. SessionIsSound limits last n e.1) (sym (eqb-true id e.0 is)) all.0)
sound_here e es false is found all later = later found

pub sound_at : {limits : Bounds} {last id : ℕ} {old : Session} (es : List (ℕ × Session)) → Some old ≡ lookup (is_id id) es → AreSound limits last es →
    SessionIsSound limits last id old
sound_at [] found all = absurd (cc)
sound_at {id} (e ∷ es) found all =
    sound_here e es (is_id id e.0) (sym (unsigned_tied id e.0)) found all (λ f. sound_at es f all.1)

-- sessions stay sound where the one that was found is changed into one that is
sound_by : {old : Session} (limits : Bounds) (last : ℕ) (e : ℕ × Session) (es : List (ℕ × Session)) (id : ℕ) (new : Session) (here : Bool) →
    Some old ≡ cond here (Some e.1) (lookup (is_id id) es) → ((other : ℕ) → SessionIsSound limits last other old → SessionIsSound limits last other new) →
    AreSound limits last (e ∷ es) → (Some old ≡ lookup (is_id id) es → AreSound limits last (set_value (is_id id) es new)) →
    AreSound limits last (cond here ((e.0, new) ∷ es) (e ∷ set_value (is_id id) es new))
sound_by {old} limits last e es id new true found h all later =
    let same : old ≡ e.1 = cc in
    (h e.0 (subst (λ (s : Session). SessionIsSound limits last e.0 s) (sym same) all.0), all.1)
sound_by limits last e es id new false found h all later = (all.0, later found)

pub sound_set : {old : Session} (limits : Bounds) (last : ℕ) (es : List (ℕ × Session)) (id : ℕ) (new : Session) → Some old ≡ lookup (is_id id) es →
    ((other : ℕ) → SessionIsSound limits last other old → SessionIsSound limits last other new) → AreSound limits last es →
    AreSound limits last (set_value (is_id id) es new)
sound_set limits last [] id new found h all = tt
sound_set limits last (e ∷ es) id new found h all =
    sound_by limits last e es id new (is_id id e.0) found h all (λ f. sound_set limits last es id new f h all.1)

-- where nothing of a session but what waits is changed, the hub stays sound
pub sound_with : {limits : Bounds} {es : List (ℕ × Session)} {store : Store} {last : ℕ} → HubIsSound limits es store last → {ns : List (ℕ × Session)}
    {old new : Session} (id : ℕ) → ns ≡ set_value (is_id id) es new → Some old ≡ lookup (is_id id) es → HasSameRest old new → HubIsSound limits ns store last
sound_with {limits} {es} {last} h {old} {new} id written found rest = record {
  stored = h.stored;
  few = h.few;
  sound = subst (AreSound limits last) (sym written) (sound_set limits last es id new found (λ other s. record {
    same_id = rest.same_id ∙ s.same_id;
    given = s.given;
    reading = subst (ReadsBy (rules_under Two limits)) (sym rest.same_decoder) s.reading;
    idle = subst (λ d. HoldsNoIdleDecoder new.closing d) (sym rest.same_decoder)
        (subst (λ b. HoldsNoIdleDecoder b old.decoder) (sym rest.same_closing) s.idle);
    taking = λ is_open. subst (λ d. (front : List ℕ) × HasReadFront d front) (sym rest.same_decoder) (s.taking (sym rest.same_closing ∙ is_open));
  }) h.sound);
}

-- a session is there where it was found
pub seat_is_there : {hub : HubState} (limits : Bounds) (es : List (ℕ × Session)) (store : Store) (last : ℕ) → state_of limits es store last ≡ hub →
    {old : Session} (id : ℕ) → Some old ≡ lookup (is_id id) es → seat_at hub id ≡ None → ⊥
seat_is_there {hub} limits es store last view {old} id found none =
    let e : Some (seat_of old) ≡ None = sym (seat_is limits es store last hub view id found) ∙ none in absurd (cc)

put_same : {e : ℕ × Seat} {es : List (ℕ × Seat)} {seat : Seat} (here : Bool) (id : ℕ) → cond here (Some e.1) (lookup (λ other. id == other) es) ≡ Some seat →
    (lookup (λ other. id == other) es ≡ Some seat → with_seat es id seat ≡ es) → cond here ((e.0, seat) ∷ es) (e ∷ with_seat es id seat) ≡ e ∷ es
put_same {e} {es} {seat} true id found later =
    let same : e.1 ≡ seat = cc in
    ap (λ s. (e.0, s) ∷ es) (sym same)
put_same {e} false id found later = ap (λ l. e ∷ l) (later found)

pub with_same : (es : List (ℕ × Seat)) (id : ℕ) (seat : Seat) → lookup (λ other. id == other) es ≡ Some seat → with_seat es id seat ≡ es
with_same [] id seat found = refl
with_same (e ∷ es) id seat found = put_same (id == e.0) id found (with_same es id seat)

-- a session that is put is there
found_put : {s seat : Seat} (here : Bool) (e : ℕ × Seat) (es : List (ℕ × Seat)) (id : ℕ) → (id == e.0) ≡ here → cond here (Some e.1) (lookup
    (λ other. id == other) es) ≡ Some s → (lookup (λ other. id == other) es ≡ Some s → lookup (λ other. id == other) (with_seat es id seat) ≡ Some seat) →
    lookup (λ other. id == other) (cond here ((e.0, seat) ∷ es) (e ∷ with_seat es id seat)) ≡ Some seat
found_put {seat} true e es id is found later = ap (λ b. cond b (Some seat) (lookup (λ other. id == other) es)) is
found_put {seat} false e es id is found later =
    ap (λ b. cond b (Some e.1) (lookup (λ other. id == other) (with_seat es id seat))) is ∙ later found

pub put_there : (es : List (ℕ × Seat)) (id : ℕ) (s seat : Seat) → lookup (λ other. id == other) es ≡ Some s →
    lookup (λ other. id == other) (with_seat es id seat) ≡ Some seat
put_there [] id s seat found = absurd (cc)
put_there (e ∷ es) id s seat found = found_put (id == e.0) e es id refl found (put_there es id s seat)

-- where the session's seat is as before, so is the hub
pub same_state : {hub : HubState} (limits : Bounds) (es : List (ℕ × Session)) (store : Store) (last : ℕ) → state_of limits es store last ≡ hub →
    {ns : List (ℕ × Session)} {old : Session} (id : ℕ) (new : Session) → ns ≡ set_value (is_id id) es new → Some old ≡ lookup (is_id id) es →
    seat_of new ≡ seat_of old → state_of limits ns store last ≡ hub
same_state limits es store last view {old} id new written found same =
    let with : List (ℕ × Seat) → HubState = λ seats. record { limits = limits; sessions = seats; store = store; last = last } in
    let there : lookup (λ other. id == other) (seats_of es) ≡ Some (seat_of old) = sym (seats-lookup es id) ∙ ap (option_map seat_of) (sym found) in
    ap (λ xs. with (seats_of xs)) written ∙ ap with (seats-set es id new ∙ ap (with_seat (seats_of es) id) same ∙ with_same (seats_of es) id
    (seat_of old) there) ∙
    view

-- a session that is taken away
remove_by : (b : Bool) (x y : List (ℕ × Session)) → seats_of (cond b x y) ≡ cond b (seats_of x) (seats_of y)
remove_by true x y = refl
remove_by false x y = refl

pub seats-remove : (es : List (ℕ × Session)) (id : ℕ) → seats_of (remove_entry (is_id id) es) ≡ without_seat (seats_of es) id
seats-remove [] id = refl
seats-remove (e ∷ es) id =
    remove_by (is_id id e.0) es (e ∷ remove_entry (is_id id) es) ∙
    ap (λ l. cond (is_id id e.0) (seats_of es) ((e.0, seat_of e.1) ∷ l)) (seats-remove es id) ∙
    ap (λ b. cond b (seats_of es) ((e.0, seat_of e.1) ∷ without_seat (seats_of es) id)) (unsigned_tied id e.0)

pub sound_remove : (limits : Bounds) (last : ℕ) (es : List (ℕ × Session)) (id : ℕ) → AreSound limits last es →
    AreSound limits last (remove_entry (is_id id) es)
sound_remove limits last [] id h = tt
sound_remove limits last (e ∷ es) id h =
    cond_both (is_id id e.0) es (e ∷ remove_entry (is_id id) es) (AreSound limits last) (λ here. h.1)
    (λ other. (h.0, sound_remove limits last es id h.1))

-- a session with a new id goes last
pub insert_last : (limits : Bounds) (last : ℕ) (es : List (ℕ × Session)) (new : Session) → AreSound limits last es →
    insert_entry nat_cmp es (last + 1) new ≡ es ++ (last + 1, new) ∷ []
insert_last limits last [] new h = refl
insert_last limits last (e ∷ es) new h =
    let earlier = h.0.given in
    let after : e.0 < last + 1 = omega (arith, earlier) in
    ap (λ o. match_ordering o ((last + 1, new) ∷ e ∷ es) ((e.0, new) ∷ es) (e ∷ insert_entry nat_cmp es (last + 1) new))
    (sym (nat_cmp_is (last + 1) e.0 Greater after)) ∙ ap (λ l. e ∷ l) (insert_last limits last es new h.1)

-- no session has the next id
pub none_next : (limits : Bounds) (last : ℕ) (es : List (ℕ × Session)) → AreSound limits last es →
    lookup (λ other. last + 1 == other) (seats_of es) ≡ None
none_next limits last [] h = refl
none_next limits last (e ∷ es) h =
    let earlier = h.0.given in
    let other : (last + 1 == e.0) ≡ false = ne_eqb (last + 1) e.0 (λ same. omega (arith, same, earlier)) in
    ap (λ b. cond b (Some (seat_of e.1)) (lookup (λ x. last + 1 == x) (seats_of es))) other ∙ none_next limits last es h.1

found_later : {seat : Seat} (here : Bool) (x : Seat) (rest rest' : Option Seat) → cond here (Some x) rest ≡ None → (rest ≡ None → rest' ≡ Some seat) →
    cond here (Some x) rest' ≡ Some seat
found_later true x rest rest' none later = absurd (cc)
found_later false x rest rest' none later = later none

-- one that goes last is found there
pub found_last : {seat : Seat} (id : ℕ) (es : List (ℕ × Seat)) → lookup (λ other. id == other) es ≡ None →
    lookup (λ other. id == other) (es ++ (id, seat) ∷ []) ≡ Some seat
found_last {seat} id [] none = ap (λ b. cond b (Some seat) None) (eq-eqb id id refl)
found_last {seat} id (e ∷ es) none =
    found_later (id == e.0) e.1 (lookup (λ other. id == other) es) (lookup (λ other. id == other) (es ++ (id, seat) ∷ [])) none
    (found_last id es)

pub seats-append : (es more : List (ℕ × Session)) → seats_of (es ++ more) ≡ seats_of es ++ seats_of more
seats-append es more = map-append (λ (e : ℕ × Session). (e.0, seat_of e.1)) es more

-- sessions stay sound after a new one
pub sound_append : {limits : Bounds} {new : Session} (last : ℕ) (es : List (ℕ × Session)) → AreSound limits last es →
    SessionIsSound limits (last + 1) (last + 1) new → AreSound limits (last + 1) (es ++ (last + 1, new) ∷ [])
sound_append last [] h s = (s, tt)
sound_append last (e ∷ es) h s =
    let earlier = h.0.given in (
      record { same_id = h.0.same_id; given = omega (arith, earlier); reading = h.0.reading; taking = h.0.taking; idle = h.0.idle },
      sound_append last es h.1 s,
    )

-- the seat of a new session
pub new_seat : (s : Session) → s.version ≡ Two → s.out.items ≡ [] → s.closing ≡ false →
    seat_of s ≡ record { version = Two; out = []; closing = false; decoder = s.decoder }
new_seat s version out is_open =
    ap (λ v. record { version = v; out = s.out.items; closing = s.closing; decoder = s.decoder }) version ∙
    ap (λ text. record { version = Two; out = text; closing = s.closing; decoder = s.decoder }) out ∙
    ap (λ closing. record { version = Two; out = []; closing = closing; decoder = s.decoder }) is_open

-- the seat of a session that is as before, but for what waits
pub same_seat : {text : List ℕ} (new old : Session) → new.version ≡ old.version → new.out.items ≡ text → new.closing ≡ old.closing →
    new.decoder ≡ old.decoder → seat_of new ≡ record { version = old.version; out = text; closing = old.closing; decoder = old.decoder }
same_seat {text} new old version out closing decoder =
    ap (λ v. record { version = v; out = new.out.items; closing = new.closing; decoder = new.decoder }) version ∙
    ap (λ t. record { version = old.version; out = t; closing = new.closing; decoder = new.decoder }) out ∙
    ap (λ b. record { version = old.version; out = text; closing = b; decoder = new.decoder }) closing ∙
    ap (λ d. record { version = old.version; out = text; closing = old.closing; decoder = d }) decoder
