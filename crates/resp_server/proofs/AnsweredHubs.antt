-- What a hub does with a piece, in words of its state.
use Rattle.std.proofs.Common.{◌≡◌, ℕ, ◌==◌, ◌-◌, ◌^◌, arith, length, take, take_all, inl, inr, true, false, Bool, cond, Option, None, Some, List, [], ◌∷◌, ◌++◌, IfSome, append-nil, refl, sym, ap, subst, ◌∙◌}
use Rattle.std.specs.Map.{lookup, set_value}
use Rattle.std.specs.Option.{option_map}
use Rattle.std.proofs.lemmas.Bool.{cases_lt, false≢true}
use Rattle.resp_value.specs.Bounds.{Bounds}
use Rattle.resp_value.specs.Rules.{WithinTotal}
use Rattle.resp_value.specs.Spellings.{IsViable}
use Rattle.resp_session.specs.Answers.{Answers, BeginsNoValue, server_rules}
use Rattle.resp_session.specs.Fitting.{FitsStore}
use Rattle.resp_session.specs.Stores.{Store}
use Rattle.resp_server.specs.Answering.{IsAnswered, IsCutShort, TakesWithin, state_with}
use Rattle.resp_server.specs.Handling.{WhereOpen, HasAnswered, HasCutShort}
use Rattle.resp_server.specs.Hubs.{HubState, Seat, AreSound, HubIsSound, seat_of, seats_of, seat_at, with_seat}
use Rattle.resp_server.specs.Reading.{HasReadFront, HoldsNoIdleDecoder, ReadsBy}
use Rattle.resp_server.specs.declared.session.Session.{Session}
use Rattle.resp_server.proofs.Seats.{is_id, put_there, state_of, seats-lookup, seats-set, sound_set, with_same}
use Rattle.resp_server.proofs.Turns.{waits_on}

-- what holds of the session that was found, and of the hub as its fields are
at_found : {hub : HubState} (limits : Bounds) (es : List (ℕ × Session)) (store : Store) (last : ℕ) → state_of limits es store last ≡ hub →
    {old : Session} (id : ℕ) → Some old ≡ lookup (is_id id) es → (P : HubState → Seat → Type 0) → P (state_of limits es store last) (seat_of old) →
    IfSome (seat_at hub id) (P hub)
at_found limits es store last view {old} id found P p =
    let there : seat_at (state_of limits es store last) id ≡ Some (seat_of old) = sym (seats-lookup es id) ∙ ap (option_map seat_of) (sym found) in
    subst (λ h. IfSome (seat_at h id) (P h)) view (subst (λ o. IfSome o (P (state_of limits es store last))) (sym there) p)

pub hub_answered : {limits : Bounds} {hub : HubState} (es : List (ℕ × Session)) (store : Store) (last : ℕ) → state_of limits es store last ≡ hub →
    {limits' : Bounds} → limits' ≡ limits → {ns : List (ℕ × Session)} {id : ℕ} {old : Session} (store' : Store) (new : Session) →
    ns ≡ set_value (is_id id) es new → Some old ≡ lookup (is_id id) es → (piece : List ℕ) (k : ℕ) → old.id ≡ id →
    ((front : List ℕ) → HasReadFront old.decoder front → IsAnswered limits store store' old new (front ++ piece) k) →
    WhereOpen hub id (λ s front. HasAnswered hub (state_of limits' ns store' last) id s (front ++ piece) k)
hub_answered {limits} es store last view {limits'} same_limits {ns} {id} {old} store' new written found piece k same answered =
    at_found limits es store last view id found (λ h s. s.closing ≡ false → (front : List ℕ) → HasReadFront s.decoder front →
    HasAnswered h (state_of limits' ns store' last) id s (front ++ piece) k) (λ is_open front taken.
    let a = answered front taken in
    let seat : seat_of new ≡ record { version = new.version; out = old.out.items ++ a.reply; closing = new.closing; decoder = new.decoder } =
    ap (λ items. record { version = new.version; out = items; closing = new.closing; decoder = new.decoder }) a.replied in
    record {
      reply = a.reply;
      store = store';
      version = new.version;
      closing = new.closing;
      decoder = new.decoder;
      rest = a.rest;
      answers = subst (λ n. Answers limits n (state_with store old.version [] false 0) (front ++ piece)
          (state_with store' new.version a.reply new.closing k) a.rest) same a.answers;
      state = ap (λ l. record { limits = l; sessions = seats_of ns; store = store'; last = last }) same_limits ∙
          ap (λ seats. record { limits = limits; sessions = seats; store = store'; last = last })
          (ap seats_of written ∙ seats-set es id new ∙ ap (with_seat (seats_of es) id) seat);
      taking = a.taking;
    })

pub hub_cut_short : {limits : Bounds} {hub : HubState} (es : List (ℕ × Session)) (store : Store) (last : ℕ) → state_of limits es store last ≡ hub →
    {limits' : Bounds} → limits' ≡ limits → {ns : List (ℕ × Session)} {id : ℕ} {old : Session} (store' : Store) (new : Session) → ns ≡ set_value (is_id id) es
    new → Some old ≡ lookup (is_id id) es → (piece : List ℕ) (k : ℕ) → old.id ≡ id → ((front : List ℕ) → HasReadFront old.decoder front →
    IsCutShort limits store store' old new front piece k) → WhereOpen hub id (λ s front. HasCutShort hub (state_of limits' ns store' last) id s front piece k)
hub_cut_short {limits} es store last view {limits'} same_limits {ns} {id} {old} store' new written found piece k same cut =
    at_found limits es store last view id found (λ h s. s.closing ≡ false → (front : List ℕ) → HasReadFront s.decoder front →
    HasCutShort h (state_of limits' ns store' last) id s front piece k) (λ is_open front taken.
    let a = cut front taken in
    let seat : seat_of new ≡ record { version = new.version; out = old.out.items ++ a.reply; closing = true; decoder = new.decoder } =
    ap (λ items. record { version = new.version; out = items; closing = new.closing; decoder = new.decoder }) a.replied ∙
    ap (λ b. record { version = new.version; out = old.out.items ++ a.reply; closing = b; decoder = new.decoder }) a.closes in
    record {
      first = a.first;
      reply = a.reply;
      store = store';
      version = new.version;
      decoder = new.decoder;
      rest = a.rest;
      answers = subst (λ n. Answers limits n (state_with store old.version [] false 0) (front ++ a.first.bytes)
          (state_with store' new.version a.reply false k) a.rest) same a.answers;
      state = ap (λ l. record { limits = l; sessions = seats_of ns; store = store'; last = last }) same_limits ∙
          ap (λ seats. record { limits = limits; sessions = seats; store = store'; last = last })
          (ap seats_of written ∙ seats-set es id new ∙ ap (with_seat (seats_of es) id) seat);
    })

-- the hub stays sound after what was answered
pub answered_sound : {limits : Bounds} {es : List (ℕ × Session)} {store : Store} {last : ℕ} → HubIsSound limits es store last → {limits' : Bounds} →
    limits' ≡ limits → {ns : List (ℕ × Session)} {store' : Store} {old : Session} (id : ℕ) (new : Session) → ns ≡ set_value (is_id id) es new →
    Some old ≡ lookup (is_id id) es → FitsStore limits store' → new.id ≡ old.id → ReadsBy (server_rules limits) new.decoder →
    (new.closing ≡ false → (front : List ℕ) × HasReadFront new.decoder front) → HoldsNoIdleDecoder new.closing new.decoder → HubIsSound limits' ns store' last
answered_sound {limits} {es} {last} h same_limits {ns} {store'} id new written found stored same reading taking idle =
    subst (λ l. HubIsSound l ns store' last) (sym same_limits) (record {
      stored = stored;
      few = h.few;
      sound = subst (AreSound limits last) (sym written) (sound_set limits last es id new found
          (λ other s. record { same_id = same ∙ s.same_id; given = s.given; reading = reading; taking = taking; idle = idle }) h.sound);
    })

-- a session that was found is closing, or isn't, as its seat is
pub not_closing : {hub : HubState} (limits : Bounds) (es : List (ℕ × Session)) (store : Store) (last : ℕ) → state_of limits es store last ≡ hub →
    {old : Session} (id : ℕ) → Some old ≡ lookup (is_id id) es → old.closing ≡ false → (Q : Type 0) → IfSome (seat_at hub id) (λ s. s.closing ≡ true → Q)
not_closing limits es store last view id found is_open Q =
    at_found limits es store last view id found (λ h s. s.closing ≡ true → Q) (λ closes. absurd (false≢true (sym is_open ∙ closes)))

pub if_closing : {hub : HubState} (limits : Bounds) (es : List (ℕ × Session)) (store : Store) (last : ℕ) → state_of limits es store last ≡ hub →
    {old : Session} (id : ℕ) → Some old ≡ lookup (is_id id) es → (Q : Type 0) → Q → IfSome (seat_at hub id) (λ s. s.closing ≡ true → Q)
if_closing limits es store last view id found Q q = at_found limits es store last view id found (λ h s. s.closing ≡ true → Q) (λ closes. q)

-- an open session is not there where it is closing
pub not_open : {hub : HubState} (limits : Bounds) (es : List (ℕ × Session)) (store : Store) (last : ℕ) → state_of limits es store last ≡ hub →
    {old : Session} (id : ℕ) → Some old ≡ lookup (is_id id) es → old.closing ≡ true → (P : Seat → List ℕ → Type 0) → WhereOpen hub id P
not_open limits es store last view id found closes P =
    at_found limits es store last view id found (λ h s. s.closing ≡ false → (front : List ℕ) → HasReadFront s.decoder front → P s front)
    (λ is_open. absurd (false≢true (sym is_open ∙ closes)))

-- nothing is said of a session that isn't there
pub if_none : {o : Option Seat} (P : Seat → Type 0) → o ≡ None → IfSome o P
if_none P none = subst (λ x. IfSome x P) (sym none) tt

-- a session whose front is waited on has answered it
waits_in : {id : ℕ} {old : Session} (limits : Bounds) (es : List (ℕ × Session)) (store : Store) (last : ℕ) → Some old ≡ lookup (is_id id) es →
    {front : List ℕ} → HasReadFront old.decoder front → old.closing ≡ false → BeginsNoValue (server_rules limits) front →
    IsViable (server_rules limits) WithinTotal front → HasAnswered (state_of limits es store last) (state_of limits es store last) id (seat_of old) front 0
waits_in {id} {old} limits es store last found {front} taken is_open none viable =
    let there : lookup (λ other. id == other) (seats_of es) ≡ Some (seat_of old) = sym (seats-lookup es id) ∙ ap (option_map seat_of) (sym found) in
    let seat : seat_of old ≡ record { version = old.version; out = old.out.items ++ []; closing = false; decoder = old.decoder } =
    ap (λ items. record { version = old.version; out = items; closing = old.closing; decoder = old.decoder }) (sym (append-nil old.out.items)) ∙
    ap (λ b. record { version = old.version; out = old.out.items ++ []; closing = b; decoder = old.decoder }) is_open in
    record {
      reply = [];
      store = store;
      version = old.version;
      closing = false;
      decoder = old.decoder;
      rest = front;
      answers = waits_on refl refl none viable;
      state = ap (λ seats. record { limits = limits; sessions = seats; store = store; last = last })
          (sym (with_same (seats_of es) id (seat_of old) there) ∙ ap (with_seat (seats_of es) id) seat);
      taking = λ open_now. taken;
    }

pub hub_waits : {hub : HubState} (limits : Bounds) (es : List (ℕ × Session)) (store : Store) (last : ℕ) → state_of limits es store last ≡ hub →
    {old : Session} (id : ℕ) → Some old ≡ lookup (is_id id) es → ((front : List ℕ) → HasReadFront old.decoder front →
    BeginsNoValue (server_rules limits) front) → ((front : List ℕ) → HasReadFront old.decoder front → IsViable (server_rules limits) WithinTotal front) →
    WhereOpen hub id (λ s front. HasAnswered hub hub id s front 0)
hub_waits limits es store last view id found none viable =
    at_found limits es store last view id found (λ h s. s.closing ≡ false → (front : List ℕ) → HasReadFront s.decoder front →
    HasAnswered h h id s front 0) (λ is_open front taken. waits_in limits es store last found taken is_open (none front taken)
    (viable front taken))

-- what holds of the session that was found holds of its seat
pub found_seat : {hub : HubState} (limits : Bounds) (es : List (ℕ × Session)) (store : Store) (last : ℕ) → state_of limits es store last ≡ hub →
    {old : Session} (id : ℕ) → Some old ≡ lookup (is_id id) es → (P : Seat → Type 0) → P (seat_of old) → IfSome (seat_at hub id) P
found_seat limits es store last view id found P p = at_found limits es store last view id found (λ h s. P s) p

if_either : (P : Seat → Type 0) (b : Bool) (seat : Seat) (rest : Option Seat) → P seat → IfSome rest P → IfSome (cond b (Some seat) rest) P
if_either P true seat rest here later = here
if_either P false seat rest here later = later

idle_seat : (limits : Bounds) (last : ℕ) (es : List (ℕ × Session)) (id : ℕ) → AreSound limits last es →
    IfSome (lookup (λ other. id == other) (seats_of es)) (λ s. HoldsNoIdleDecoder s.closing s.decoder)
idle_seat limits last [] id sound = tt
idle_seat limits last (e ∷ es) id sound =
    if_either (λ s. HoldsNoIdleDecoder s.closing s.decoder) (id == e.0) (seat_of e.1) (lookup (λ other. id == other) (seats_of es)) sound.0.idle
    (idle_seat limits last es id sound.1)

-- each session of a sound hub has a decoder only inside a value
pub holds_no_idle : {limits : Bounds} {es : List (ℕ × Session)} {store : Store} {last : ℕ} (id : ℕ) → HubIsSound limits es store last →
    IfSome (seat_at (state_of limits es store last) id) (λ s. HoldsNoIdleDecoder s.closing s.decoder)
holds_no_idle {limits} {es} {last} id sound = idle_seat limits last es id sound.sound

-- all of a piece is used if more can wait than memory has
pub used_up : (before after : ℕ) (closing : Bool) (size used : ℕ) → TakesWithin (2 ^ 64 - 1) before after closing size used → used ≡ size
used_up before after closing size used t = elim (cases_lt used size) as (λ _. used ≡ size) [
  | inl less ↦ let (_, over, in_memory) = t.stops less in absurd (omega (arith, over, in_memory))
  | inr most ↦ let within = t.within in omega (arith, most, within)
]

answered_whole : (seat : Option Seat) (old new : HubState) (id : ℕ) (piece : List ℕ) (used k : ℕ) → seat_at old id ≡ seat →
    IfSome seat (λ s. s.closing ≡ false → (front : List ℕ) → HasReadFront s.decoder front → HasAnswered old new id s (front ++ take used piece) k) →
    IfSome seat (λ s. IfSome (seat_at new id) (λ t. TakesWithin (2 ^ 64 - 1) (length s.out) (length t.out) t.closing (length piece) used)) →
    IfSome seat (λ s. s.closing ≡ false → (front : List ℕ) → HasReadFront s.decoder front → HasAnswered old new id s (front ++ piece) k)
answered_whole None old new id piece used k here answered within = tt
answered_whole (Some s) old new id piece used k here answered within = λ is_open front taken.
    let a = answered is_open front taken in
    let seat : Seat = record { version = a.version; out = s.out ++ a.reply; closing = a.closing; decoder = a.decoder } in
    let there : seat_at new id ≡ Some seat = ap (λ (h : HubState). seat_at h id) a.state ∙ put_there old.sessions id s seat here in
    let takes : TakesWithin (2 ^ 64 - 1) (length s.out) (length seat.out) seat.closing (length piece) used =
    subst (λ o. IfSome o (λ t. TakesWithin (2 ^ 64 - 1) (length s.out) (length t.out) t.closing (length piece) used)) there within in
    let all = used_up (length s.out) (length seat.out) seat.closing (length piece) used takes in
    subst (λ t. HasAnswered old new id s (front ++ t) k) (ap (λ n. take n piece) all ∙ take_all (length piece) piece (omega arith)) a

-- so all of it is answered
pub answers_all : (old new : HubState) (id : ℕ) (piece : List ℕ) (used k : ℕ) →
    WhereOpen old id (λ s front. HasAnswered old new id s (front ++ take used piece) k) →
    IfSome (seat_at old id) (λ s. IfSome (seat_at new id) (λ t. TakesWithin (2 ^ 64 - 1) (length s.out) (length t.out) t.closing (length piece) used)) →
    WhereOpen old id (λ s front. HasAnswered old new id s (front ++ piece) k)
answers_all old new id piece used k = answered_whole (seat_at old id) old new id piece used k refl
