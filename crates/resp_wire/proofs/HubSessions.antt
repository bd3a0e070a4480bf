-- A session of a hub that is given bytes and to which text is written, step by step.
use Rattle.std.proofs.Common.{◌≡◌, ◌∙◌, ℕ, ◌+◌, Bool, true, false, List, [], ◌++◌, length, Option, None, Some, IfSome, ap, append_assoc, arith, refl, subst, sym}
use Rattle.std.specs.Option.{option_map}
use Rattle.std.specs.Prelude.{is_some, unwrap_or}
use Rattle.std.proofs.lemmas.Bool.{false≢true}
use Rattle.resp_io.specs.Devices.{Appends}
use Rattle.resp_io.proofs.Turning.{appends_more, appends_nothing}
use Rattle.resp_session.specs.AnswerLaws.{AnswersAreAdded, AnswersGoOn}
use Rattle.resp_server.specs.Answering.{TakesWithin}
use Rattle.resp_server.specs.Handling.{HasAnswered, HasCutShort, IfOutOfMemory, WhereOpen}
use Rattle.resp_server.specs.Hubs.{HubState, Seat, WaitsAtMost, seat_at, seated}
use Rattle.resp_server.specs.Reading.{HasReadFront}
use Rattle.resp_server.specs.Sending.{HasSent, IsClosing}
use Rattle.resp_server.specs.declared.error.HubError.{HubError}
use Rattle.resp_server.specs.declared.error.HubError.TheVariants as hub
use Rattle.resp_wire.specs.HubSessions.{CutsSession, IsKnown, ServesSession, WritesSession, has_session, is_closing_at, waiting_at}
use Rattle.resp_wire.specs.Serving.{IsOpen, Serves, StopsServing}
use Rattle.resp_wire.specs.Visits.{GoesOnWith, Sends, UsesWithin}
use Rattle.resp_wire.specs.declared.error.ServeError.TheVariants.{OutOfMemory}
use Rattle.resp_wire.proofs.Seated.{at_open, one_seat, open_map, seat_here, seated_same, seated_twice, sent_few, where_open}
use Rattle.resp_wire.proofs.ServedTexts.{first_waits, seat_given, seat_of, seat_with, serves_given, serves_nothing, serves_piece, stands, stops_piece, takes_at}

-- The session of this id.

pub seat_waits : (hub : HubState) (id : ℕ) (s : Seat) → seat_at hub id ≡ Some s → waiting_at hub id ≡ s.out
seat_waits hub id s here = ap (λ o. unwrap_or (option_map (λ (t : Seat). t.out) o) []) here

pub seat_closing : (hub : HubState) (id : ℕ) (s : Seat) → seat_at hub id ≡ Some s → is_closing_at hub id ≡ s.closing
seat_closing hub id s here = ap (λ o. unwrap_or (option_map (λ (t : Seat). t.closing) o) false) here

pub is_at : (hub : HubState) (id : ℕ) (s : Seat) → seat_at hub id ≡ Some s → IsClosing hub id (is_closing_at hub id)
is_at hub id s here = ap (option_map (λ (t : Seat). t.closing)) here ∙ ap Some (sym (seat_closing hub id s here))

pub at_is : (hub : HubState) (id : ℕ) (closing : Bool) → IsClosing hub id closing → closing ≡ is_closing_at hub id
at_is hub id closing is = sym (ap (λ o. unwrap_or o false) is)

-- a session that is known and not closing is open
pub known_open : (hub : HubState) (id : ℕ) → IsKnown hub id → is_closing_at hub id ≡ false → IsOpen hub id
known_open hub id k is_open =
    let not_closing = sym (seat_closing hub id k.seat k.here) ∙ is_open in
    let (front, taken) = k.taking not_closing in
    record { seat = k.seat; here = k.here; not_closing = not_closing; front = front; taken = taken }

known_by : (hub : HubState) (id : ℕ) (o : Option Seat) → seat_at hub id ≡ o → is_some o ≡ true →
    IfSome o (λ s. s.closing ≡ false → (front : List ℕ) × HasReadFront s.decoder front) → IsKnown hub id
known_by hub id None is some taking = absurd (false≢true some)
known_by hub id (Some s) is some taking = record { seat = s; here = is; taking = taking }

-- a session that is there is known
pub known_there : (hub : HubState) (id : ℕ) → has_session hub id ≡ true →
    IfSome (seat_at hub id) (λ s. s.closing ≡ false → (front : List ℕ) × HasReadFront s.decoder front) → IsKnown hub id
known_there hub id some taking = known_by hub id (seat_at hub id) refl some taking

-- Text that was written.

pub sent_seat : (old new : HubState) (id : ℕ) (held held' : Option (List ℕ)) (waits : List ℕ) → (h : HasSent old new id held held' waits) →
    seat_at new id ≡ Some (seat_with h.seat.version waits h.seat.closing h.seat.decoder)
sent_seat old new id held held' waits h =
    ap (λ g. seat_at g id) h.state ∙ seat_here old id h.seat (seat_with h.seat.version waits h.seat.closing h.seat.decoder) h.here

-- nothing was written
pub nothing_sent : (hub : HubState) (id : ℕ) (s : Seat) (held : Option (List ℕ)) → seat_at hub id ≡ Some s → HasSent hub hub id held held s.out
nothing_sent hub id s held here = record {
  seat = s;
  here = here;
  text = [];
  parts = refl;
  appended = appends_nothing held;
  state = seated_same hub id s here;
}

text_of : (old new : HubState) (id : ℕ) (came text waits : List ℕ) → (h : HasSent old new id (Some []) (Some text) waits) → h.text ≡ text
text_of old new id came text waits h = let e : Some text ≡ Some h.text = h.appended in cc

-- this text was written to any device
pub sent_as : (old new : HubState) (id : ℕ) (held held' : Option (List ℕ)) (text waits : List ℕ) → HasSent old new id (Some []) (Some text) waits →
    Appends held held' text → HasSent old new id held held' waits
sent_as old new id held held' text waits h appended = record {
  seat = h.seat;
  here = h.here;
  text = h.text;
  parts = h.parts;
  appended = subst (Appends held held') (sym (text_of old new id [] text waits h)) appended;
  state = h.state;
}

pub sent_alone : (old new : HubState) (id : ℕ) (held held' : Option (List ℕ)) (waits : List ℕ) → (h : HasSent old new id held held' waits) →
    HasSent old new id (Some []) (Some h.text) waits
sent_alone old new id held held' waits h = record { seat = h.seat; here = h.here; text = h.text; parts = h.parts; appended = refl; state = h.state }

-- and then more of the bytes that waited
sent_again : (given cur new : HubState) (id : ℕ) (held held' held'' : Option (List ℕ)) (waits waits' : List ℕ) → HasSent given cur id held held' waits →
    HasSent cur new id held' held'' waits' → HasSent given new id held held'' waits'
sent_again given cur new id held held' held'' waits waits' a b =
    let first = seat_with a.seat.version waits a.seat.closing a.seat.decoder in
    let last = seat_with a.seat.version waits' a.seat.closing a.seat.decoder in
    let same : b.seat ≡ first = one_seat (seat_at cur id) b.seat first b.here (sent_seat given cur id held held' waits a) in
    record {
      seat = a.seat;
      here = a.here;
      text = a.text ++ b.text;
      parts = a.parts ∙ ap (λ z. a.text ++ z) (sym (ap (λ (t : Seat). t.out) same) ∙ b.parts) ∙ sym (append_assoc a.text b.text waits');
      appended = appends_more held held' held'' a.text b.text a.appended b.appended;
      state = b.state ∙ ap (λ (t : Seat). seated cur id (seat_with t.version waits' t.closing t.decoder)) same ∙ ap (λ g. seated g id last) a.state ∙
          seated_twice given id first last;
    }

pub known_sent : (old new : HubState) (id : ℕ) (held held' : Option (List ℕ)) (waits : List ℕ) → IsKnown old id → HasSent old new id held held' waits →
    IsKnown new id
known_sent old new id held held' waits k h =
    let same : h.seat ≡ k.seat = one_seat (seat_at old id) h.seat k.seat h.here k.here in
    record {
      seat = seat_with h.seat.version waits h.seat.closing h.seat.decoder;
      here = sent_seat old new id held held' waits h;
      taking = subst (λ (t : Seat). t.closing ≡ false → (front : List ℕ) × HasReadFront t.decoder front) (sym same) k.taking;
    }

pub sent_closing : (old new : HubState) (id : ℕ) (held held' : Option (List ℕ)) (waits : List ℕ) → HasSent old new id held held' waits →
    is_closing_at new id ≡ is_closing_at old id
sent_closing old new id held held' waits h =
    seat_closing new id (seat_with h.seat.version waits h.seat.closing h.seat.decoder) (sent_seat old new id held held' waits h) ∙
    sym (seat_closing old id h.seat h.here)

pub sent_waits : (old new : HubState) (id : ℕ) (held held' : Option (List ℕ)) (waits : List ℕ) → HasSent old new id held held' waits → waiting_at new id ≡ waits
sent_waits old new id held held' waits h =
    seat_waits new id (seat_with h.seat.version waits h.seat.closing h.seat.decoder) (sent_seat old new id held held' waits h)

-- the session was served, and then this text was written
written_on : (held : ℕ) (first cur new : HubState) (id : ℕ) (given text more waits : List ℕ) → ServesSession held first id cur id given text →
    HasSent cur new id (Some []) (Some more) waits → ServesSession held first id new id given (text ++ more)
written_on held first cur new id given text more waits v h = record {
  same_id = refl;
  same_limits = ap (λ (g : HubState). g.limits) h.state ∙ v.same_limits;
  bounded = λ few. sent_few cur new id (Some []) (Some more) waits (held + first.limits.total) h (v.bounded few);
  there = ap is_some (sent_seat cur new id (Some []) (Some more) waits h) ∙ sym (ap is_some h.here) ∙ v.there;
  served = where_open first id _ (λ s here not_closing front taken.
      let (before, w) = at_open first id (λ t f. (waits : List ℕ) × Serves first cur id t (f ++ given) (Some []) (Some text) waits) s front v.served here
      not_closing taken in (
        waits,
        record {
          given = w.given;
          commands = w.commands;
          answered = w.answered;
          sent = sent_again w.given cur new id (Some []) (Some text) (Some (text ++ more)) before waits w.sent
              (sent_as cur new id (Some text) (Some (text ++ more)) more waits h refl);
        },
      ));
}

-- the effect of a write
pub session_sends : (old new : HubState) (id : ℕ) (held held' : Option (List ℕ)) (waits : List ℕ) → HasSent old new id held held' waits →
    Sends ServesSession WritesSession held held' old id new id
session_sends old new id held held' waits h =
    let alone = sent_alone old new id held held' waits h in
    record {
      text = h.text;
      appended = h.appended;
      wrote = record { same_id = refl; waits = waits; sent = alone };
      goes_on = λ most first client given came v.
          subst (λ k. ServesSession most first k old id given came → ServesSession most first k new id given (came ++ h.text)) v.same_id
          (λ w. written_on most first old new id given came h.text waits w alone) v;
    }

-- nothing was given
pub serves_none : (held : ℕ) (hub : HubState) (id : ℕ) → WhereOpen hub id (λ s front. HasAnswered hub hub id s front 0) →
    ServesSession held hub id hub id [] []
serves_none held hub id waits = record {
  same_id = refl;
  same_limits = refl;
  bounded = λ few. few;
  there = refl;
  served = where_open hub id _ (λ s here not_closing front taken. (
    s.out,
    serves_nothing hub hub id s front (Some []) (Some []) s.out
        (at_open hub id (λ t f. HasAnswered hub hub id t f 0) s front waits here not_closing taken) (nothing_sent hub id s (Some []) here),
  ));
}

-- Bytes that were given.

-- the session after an answer
answered_seat : (old new : HubState) (id : ℕ) (s : Seat) (text : List ℕ) (commands : ℕ) → seat_at old id ≡ Some s →
    (a : HasAnswered old new id s text commands) → seat_at new id ≡ Some (seat_with a.version (s.out ++ a.reply) a.closing a.decoder)
answered_seat old new id s text commands here a =
    seat_given old new id s (seat_with a.version (s.out ++ a.reply) a.closing a.decoder) a.store here a.state

pub known_answered : (old new : HubState) (id : ℕ) (s : Seat) (text : List ℕ) (commands : ℕ) → seat_at old id ≡ Some s →
    HasAnswered old new id s text commands → IsKnown new id
known_answered old new id s text commands here a = record {
  seat = seat_with a.version (s.out ++ a.reply) a.closing a.decoder;
  here = answered_seat old new id s text commands here a;
  taking = λ is_open. (a.rest, a.taking is_open);
}

cut_seat : (old new : HubState) (id : ℕ) (s : Seat) (front piece : List ℕ) (commands : ℕ) → seat_at old id ≡ Some s →
    (a : HasCutShort old new id s front piece commands) → seat_at new id ≡ Some (seat_with a.version (s.out ++ a.reply) true a.decoder)
cut_seat old new id s front piece commands here a =
    seat_given old new id s (seat_with a.version (s.out ++ a.reply) true a.decoder) a.store here a.state

pub known_cut : (old new : HubState) (id : ℕ) (s : Seat) (front piece : List ℕ) (commands : ℕ) → seat_at old id ≡ Some s →
    HasCutShort old new id s front piece commands → IsKnown new id
known_cut old new id s front piece commands here a = record {
  seat = seat_with a.version (s.out ++ a.reply) true a.decoder;
  here = cut_seat old new id s front piece commands here a;
  taking = λ is_open. absurd (false≢true (sym is_open));
}

pub cut_closing : (old new : HubState) (id : ℕ) (s : Seat) (front piece : List ℕ) (commands : ℕ) → seat_at old id ≡ Some s →
    HasCutShort old new id s front piece commands → is_closing_at new id ≡ true
cut_closing old new id s front piece commands here a =
    seat_closing new id (seat_with a.version (s.out ++ a.reply) true a.decoder) (cut_seat old new id s front piece commands here a)

-- the session was served and nothing waits, and then these bytes were answered
given_on : AnswersGoOn → AnswersAreAdded → (held : ℕ) (first cur new : HubState) (id : ℕ) (given text piece : List ℕ) (commands : ℕ) → IsOpen cur id →
    waiting_at cur id ≡ [] → WhereOpen cur id (λ s front. HasAnswered cur new id s (front ++ piece) commands) → ServesSession held first id cur id given text →
    WhereOpen first id (λ s front. (waits : List ℕ) × Serves first new id s (front ++ (given ++ piece)) (Some []) (Some text) waits)
given_on go_on added held first cur new id given text piece commands o none answered v = where_open first id _ (λ s here not_closing front taken.
    let (waits, w) = at_open first id (λ t f. (waits : List ℕ) × Serves first cur id t (f ++ given) (Some []) (Some text) waits) s front v.served here
    not_closing taken in
    let empty : waits ≡ [] = sym (sent_waits w.given cur id (Some []) (Some text) waits w.sent) ∙ none in
    let w' = subst (λ z. Serves first cur id s (front ++ given) (Some []) (Some text) z) empty w in
    let st = stands first cur id s (front ++ given) (Some []) (Some text) here w' o in
    let now = seat_of first cur id s (front ++ given) (Some []) (Some text) st in
    let here_now = seat_given first cur id s now st.store here st.state in
    let a = at_open cur id (λ t f. HasAnswered cur new id t (f ++ piece) commands) now st.rest answered here_now refl st.taken in
    let last = seat_with a.version (now.out ++ a.reply) a.closing a.decoder in (
      last.out,
      serves_piece go_on added first cur new id s front given piece (Some []) (Some text) (Some text) last.out here st
          (serves_given cur new new id now (st.rest ++ piece) (Some text) (Some text) last.out commands a
          (nothing_sent new id last (Some text) (answered_seat cur new id now (st.rest ++ piece) commands here_now a))),
    ))

-- the session was served and nothing waits, and then the first of these bytes were answered
cut_on : AnswersGoOn → AnswersAreAdded → (held : ℕ) (first cur new : HubState) (id : ℕ) (given text piece : List ℕ) → IsOpen cur id →
    waiting_at cur id ≡ [] → WhereOpen cur id (λ s front. (commands : ℕ) × HasCutShort cur new id s front piece commands) →
    ServesSession held first id cur id given text →
    WhereOpen first id (λ s front. StopsServing first new id s front (given ++ piece) (Some []) (Some text) OutOfMemory)
cut_on go_on added held first cur new id given text piece o none cut v = where_open first id _ (λ s here not_closing front taken.
    let (waits, w) = at_open first id (λ t f. (waits : List ℕ) × Serves first cur id t (f ++ given) (Some []) (Some text) waits) s front v.served here
    not_closing taken in
    let empty : waits ≡ [] = sym (sent_waits w.given cur id (Some []) (Some text) waits w.sent) ∙ none in
    let w' = subst (λ z. Serves first cur id s (front ++ given) (Some []) (Some text) z) empty w in
    let st = stands first cur id s (front ++ given) (Some []) (Some text) here w' o in
    let now = seat_of first cur id s (front ++ given) (Some []) (Some text) st in
    let here_now = seat_given first cur id s now st.store here st.state in
    let (commands, a) = at_open cur id (λ t f. (commands : ℕ) × HasCutShort cur new id t f piece commands) now st.rest cut here_now refl st.taken in
    stops_piece go_on added first cur new id s front given piece (Some []) (Some text) (Some text) OutOfMemory here st
    (first_waits cur new id now st.rest piece (Some text) commands here_now a))

few_after : (held : ℕ) (first cur new : HubState) (id : ℕ) → cur.limits ≡ first.limits →
    (WaitsAtMost (held + first.limits.total) first id → WaitsAtMost (held + first.limits.total) cur id) →
    (WaitsAtMost (held + cur.limits.total) cur id → WaitsAtMost (held + cur.limits.total) new id) →
    WaitsAtMost (held + first.limits.total) first id → WaitsAtMost (held + first.limits.total) new id
few_after held first cur new id same before after few =
    let bound : held + cur.limits.total ≡ held + first.limits.total = ap (λ l. held + l.total) same in
    subst (λ n. WaitsAtMost n cur id → WaitsAtMost n new id) bound after (before few)

-- the effect of bytes that were answered
pub session_gives : AnswersGoOn → AnswersAreAdded → (held : ℕ) (cur new : HubState) (id : ℕ) (piece : List ℕ) (commands : ℕ) → IsKnown cur id →
    is_closing_at cur id ≡ false → waiting_at cur id ≡ [] → WhereOpen cur id (λ s front. HasAnswered cur new id s (front ++ piece) commands) →
    (WaitsAtMost (held + cur.limits.total) cur id → WaitsAtMost (held + cur.limits.total) new id) →
    GoesOnWith (ServesSession held) (ServesSession held) cur id new id piece
session_gives go_on added held cur new id piece commands k is_open none answered few = λ first client given text v.
    let o = known_open cur id k is_open in
    let a = at_open cur id (λ t f. HasAnswered cur new id t (f ++ piece) commands) o.seat o.front answered o.here o.not_closing o.taken in
    subst (λ i. ServesSession held first i cur id given text → ServesSession held first i new id (given ++ piece) text) v.same_id (λ w. record {
      same_id = refl;
      same_limits = ap (λ (g : HubState). g.limits) a.state ∙ w.same_limits;
      bounded = few_after held first cur new id w.same_limits w.bounded few;
      there = ap is_some (answered_seat cur new id o.seat (o.front ++ piece) commands o.here a) ∙ sym (ap is_some o.here) ∙ w.there;
      served = given_on go_on added held first cur new id given text piece commands o none answered w;
    }) v

-- the effect of bytes for which memory ran out
pub session_cuts : AnswersGoOn → AnswersAreAdded → (held : ℕ) (cur new : HubState) (id : ℕ) (piece : List ℕ) → IsKnown cur id →
    is_closing_at cur id ≡ false → waiting_at cur id ≡ [] → WhereOpen cur id (λ s front. (commands : ℕ) × HasCutShort cur new id s front piece commands) →
    (WaitsAtMost (held + cur.limits.total) cur id → WaitsAtMost (held + cur.limits.total) new id) →
    GoesOnWith (ServesSession held) (CutsSession held) cur id new id piece
session_cuts go_on added held cur new id piece k is_open none cut few = λ first client given text v.
    let o = known_open cur id k is_open in
    let (commands, a) = at_open cur id (λ t f. (commands : ℕ) × HasCutShort cur new id t f piece commands) o.seat o.front cut o.here o.not_closing o.taken in
    subst (λ i. ServesSession held first i cur id given text → CutsSession held first i new id (given ++ piece) text) v.same_id (λ w. record {
      same_id = refl;
      same_limits = ap (λ (g : HubState). g.limits) a.state ∙ w.same_limits;
      bounded = few_after held first cur new id w.same_limits w.bounded few;
      stopped = cut_on go_on added held first cur new id given text piece o none cut w;
    }) v

-- how much of a piece was used
pub session_uses : (cur new : HubState) (id held commands size used : ℕ) (text : List ℕ) → (k : IsKnown cur id) → waiting_at cur id ≡ [] →
    HasAnswered cur new id k.seat text commands →
    IfSome (seat_at cur id) (λ s. IfSome (seat_at new id) (λ t. TakesWithin held (length s.out) (length t.out) t.closing size used)) →
    UsesWithin held (length (waiting_at new id)) (is_closing_at new id) size used
session_uses cur new id held commands size used text k none a within =
    let there = answered_seat cur new id k.seat text commands k.here a in
    let last = seat_with a.version (k.seat.out ++ a.reply) a.closing a.decoder in
    let empty = ap length (sym (seat_waits cur id k.seat k.here) ∙ none) in
    let takes = takes_at cur new id k.seat held size used k.here (last, there) within in
    let waits = ap length (seat_waits new id last there) in
    let closing = seat_closing new id last there in
    record {
      within = takes.within;
      stops = λ less. let (is_open, many, fits) = takes.stops less in (closing ∙ is_open, omega (arith, many, waits), omega (arith, fits, waits));
      onward = λ some. takes.onward (omega (arith, empty)) some;
    }

-- The session after a piece.

-- a hub that refused a piece of a session found no memory
memory_was_wanting : (error : HubError) → (error ≡ hub.NoSession → ⊥) → (P : ℕ → Type 0) → IfOutOfMemory error P → (commands : ℕ) × P commands
memory_was_wanting hub.NoSession other P p = absurd (other refl)
memory_was_wanting (hub.OutOfMemory commands) other P p = (commands, p)

pub cut_where : (cur new : HubState) (id : ℕ) (piece : List ℕ) (error : HubError) → IsKnown cur id → (error ≡ hub.NoSession → seat_at cur id ≡ None) →
    WhereOpen cur id (λ s front. IfOutOfMemory error (HasCutShort cur new id s front piece)) →
    WhereOpen cur id (λ s front. (commands : ℕ) × HasCutShort cur new id s front piece commands)
cut_where cur new id piece error k none cut =
    open_map cur id (λ s front. IfOutOfMemory error (HasCutShort cur new id s front piece)) _
    (λ s front. memory_was_wanting error (λ is. let e : Some k.seat ≡ None = sym k.here ∙ none is in absurd (cc)) (HasCutShort cur new id s front piece)) cut

-- the answer of a session that is known and open
answered_known : (cur new : HubState) (id : ℕ) (piece : List ℕ) (commands : ℕ) → (k : IsKnown cur id) → (o : is_closing_at cur id ≡ false) →
    WhereOpen cur id (λ s front. HasAnswered cur new id s (front ++ piece) commands) →
    HasAnswered cur new id k.seat ((known_open cur id k o).front ++ piece) commands
unfolding known_open
answered_known cur new id piece commands k is_open answered =
    let o = known_open cur id k is_open in
    at_open cur id (λ t f. HasAnswered cur new id t (f ++ piece) commands) o.seat o.front answered o.here o.not_closing o.taken

pub given_known : (cur new : HubState) (id : ℕ) (piece : List ℕ) (commands : ℕ) → IsKnown cur id → is_closing_at cur id ≡ false →
    WhereOpen cur id (λ s front. HasAnswered cur new id s (front ++ piece) commands) → IsKnown new id
given_known cur new id piece commands k is_open answered =
    known_answered cur new id k.seat ((known_open cur id k is_open).front ++ piece) commands k.here
    (answered_known cur new id piece commands k is_open answered)

pub given_uses : (cur new : HubState) (id held size : ℕ) (used : ℕ) (piece : List ℕ) (commands : ℕ) → IsKnown cur id → is_closing_at cur id ≡ false →
    waiting_at cur id ≡ [] → WhereOpen cur id (λ s front. HasAnswered cur new id s (front ++ piece) commands) →
    IfSome (seat_at cur id) (λ s. IfSome (seat_at new id) (λ t. TakesWithin held (length s.out) (length t.out) t.closing size used)) →
    UsesWithin held (length (waiting_at new id)) (is_closing_at new id) size used
given_uses cur new id held size used piece commands k is_open none answered within =
    session_uses cur new id held commands size used ((known_open cur id k is_open).front ++ piece) k none
    (answered_known cur new id piece commands k is_open answered) within

cut_known : (cur new : HubState) (id : ℕ) (piece : List ℕ) → (k : IsKnown cur id) → is_closing_at cur id ≡ false →
    WhereOpen cur id (λ s front. (commands : ℕ) × HasCutShort cur new id s front piece commands) →
    (front : List ℕ) × (commands : ℕ) × HasCutShort cur new id k.seat front piece commands
unfolding known_open
cut_known cur new id piece k is_open cut =
    let o = known_open cur id k is_open in
    let (commands, a) = at_open cur id (λ t f. (commands : ℕ) × HasCutShort cur new id t f piece commands) o.seat o.front cut o.here o.not_closing o.taken in
    (o.front, commands, a)

pub lost_known : (cur new : HubState) (id : ℕ) (piece : List ℕ) → IsKnown cur id → is_closing_at cur id ≡ false →
    WhereOpen cur id (λ s front. (commands : ℕ) × HasCutShort cur new id s front piece commands) → IsKnown new id
lost_known cur new id piece k is_open cut =
    let (front, commands, a) = cut_known cur new id piece k is_open cut in
    known_cut cur new id k.seat front piece commands k.here a

pub lost_closing : (cur new : HubState) (id : ℕ) (piece : List ℕ) → IsKnown cur id → is_closing_at cur id ≡ false →
    WhereOpen cur id (λ s front. (commands : ℕ) × HasCutShort cur new id s front piece commands) → is_closing_at new id ≡ true
lost_closing cur new id piece k is_open cut =
    let (front, commands, a) = cut_known cur new id piece k is_open cut in
    cut_closing cur new id k.seat front piece commands k.here a

-- whether a session is there

has_by : (o : Option Seat) (closing : Bool) → option_map (λ (s : Seat). s.closing) o ≡ Some closing → true ≡ is_some o
has_by None closing is = absurd (cc)
has_by (Some s) closing is = refl

pub has_closing : (hub : HubState) (id : ℕ) (closing : Bool) → IsClosing hub id closing → true ≡ has_session hub id
has_closing hub id closing is = has_by (seat_at hub id) closing is

pub has_none : (hub : HubState) (id : ℕ) → seat_at hub id ≡ None → false ≡ has_session hub id
has_none hub id none = sym (ap is_some none)

pub not_gone : (hub : HubState) (id : ℕ) → IsKnown hub id → seat_at hub id ≡ None → ⊥
not_gone hub id k none = let e : Some k.seat ≡ None = sym k.here ∙ none in absurd (cc)
