-- A visit of a session, from the visit of a client of any server.
use Rattle.std.proofs.Common.{◌≡◌, ◌∙◌, inl, inr, ℕ, ◌+◌, ◌<◌, ◌≤◌, Bool, true, false, List, [], ◌++◌, length, take, Option, None, Some, IfSome, IfErr, IfOk, OnOk, Result, Ok, Err, ap, append_assoc, arith, refl, subst, sym}
use Rattle.std.specs.List.{concat}
use Rattle.std.specs.Option.{option_map}
use Rattle.std.specs.Prelude.{is_some, unwrap_or}
use Rattle.std.proofs.lemmas.Bool.{false≢true}
use Rattle.resp_io.specs.Devices.{Appends}
use Rattle.resp_server.specs.Handling.{WhereOpen}
use Rattle.resp_server.specs.Hubs.{HubState, Seat, WaitsAtMost, seat_at}
use Rattle.resp_server.specs.Sending.{HasSent, IsClosing}
use Rattle.resp_wire.specs.HubSessions.{CutsSession, ServesSession, TakesBytes, WritesSession, has_session, is_closing_at, waiting_at}
use Rattle.resp_wire.specs.Serving as hub
use Rattle.resp_wire.specs.Serving.{AnswersBefore, EndsBy, FailsServing, HadAnswered, Serves, ServesClosing, StopsServing}
use Rattle.resp_wire.specs.Visits.{EndsVisit, FailsVisit, HadServed, ServesBy, ServesPieces, StopsOverfull, WritesClosing}
use Rattle.resp_wire.specs.declared.error.ServeError.{ServeError}
use Rattle.resp_wire.specs.declared.error.ServeError.TheVariants.{NoSession, OutOfMemory, Read, Write, TooManyTurns}
use Rattle.resp_wire.specs.declared.serve.Served.{Served}
use Rattle.resp_wire.specs.declared.serve.Served.TheVariants.{Ended, Closed}
use Rattle.resp_wire.proofs.HubSessions.{is_at, sent_as, sent_closing, sent_seat, sent_waits}
use Rattle.resp_wire.proofs.Seated.{at_open, nowhere, open_map, where_open}
use Rattle.resp_wire.proofs.ServedTexts.{seat_with}

-- The session of an id.

none_by : (o : Option Seat) → is_some o ≡ false → o ≡ None
none_by None is = refl
none_by (Some s) is = absurd (false≢true (sym is))

pub not_has : (hub : HubState) (id : ℕ) → has_session hub id ≡ false → seat_at hub id ≡ None
not_has hub id is = none_by (seat_at hub id) is

closing_by : (o : Option Seat) (closing : Bool) → is_some o ≡ true → unwrap_or (option_map (λ (s : Seat). s.closing) o) false ≡ closing →
    option_map (λ (s : Seat). s.closing) o ≡ Some closing
closing_by None closing some is = absurd (false≢true some)
closing_by (Some s) closing some is = ap Some is

few_by : (o : Option Seat) (most : ℕ) → unwrap_or (option_map (λ (s : Seat). s.out) o) [] ≡ [] → IfSome o (λ s. length s.out ≤ most)
few_by None most none = tt
few_by (Some s) most none = let size = ap length none in omega (arith, size)

many_by : (o : Option Seat) (most : ℕ) → most < length (unwrap_or (option_map (λ (s : Seat). s.out) o) []) → IfSome o (λ s. most < length s.out)
many_by None most many = tt
many_by (Some s) most many = many

-- Texts that were written to a device.

serves_as : (old new : HubState) (id : ℕ) (s : Seat) (bytes : List ℕ) (held held' : Option (List ℕ)) (text waits : List ℕ) →
    Serves old new id s bytes (Some []) (Some text) waits → Appends held held' text → Serves old new id s bytes held held' waits
serves_as old new id s bytes held held' text waits v appended = record {
  given = v.given;
  commands = v.commands;
  answered = v.answered;
  sent = sent_as v.given new id held held' text waits v.sent appended;
}

-- the session was served, with the bytes that wait then and whether it is closing
abbrev HasWaiting : HubState → HubState → ℕ → ℕ → List ℕ → Option (List ℕ) → Option (List ℕ) → Seat → List ℕ → Type 0
HasWaiting old new id id' given held held' s front = (waits : List ℕ) × (waiting_at new id' ≡ waits) × IsClosing new id (is_closing_at new id') ×
    Serves old new id s (front ++ given) held held' waits

served_waits : (most : ℕ) (old new : HubState) (id id' : ℕ) (given text : List ℕ) (held held' : Option (List ℕ)) → ServesSession most old id new id' given text →
    Appends held held' text → WhereOpen old id (HasWaiting old new id id' given held held')
served_waits most old new id id' given text held held' v appended =
    open_map old id (λ s front. (waits : List ℕ) × Serves old new id s (front ++ given) (Some []) (Some text) waits) _ (λ s front w. (
      w.0,
      ap (waiting_at new) v.same_id ∙ sent_waits w.1.given new id (Some []) (Some text) w.0 w.1.sent,
      subst (λ i. IsClosing new id (is_closing_at new i)) (sym v.same_id)
          (is_at new id (seat_with w.1.sent.seat.version w.0 w.1.sent.seat.closing w.1.sent.seat.decoder)
          (sent_seat w.1.given new id (Some []) (Some text) w.0 w.1.sent)),
      serves_as old new id s (front ++ given) held held' text w.0 w.1 appended,
    )) v.served

-- what a session's visit says of the bytes given at its end
visit_ends : (most : ℕ) (old new : HubState) (id id' : ℕ) (given text : List ℕ) (held held' left left' : Option (List ℕ)) (w w' r r' : ℕ)
    (end : Result Served ServeError) → ServesBy (ServesSession most old id) (CutsSession most old id) end new id' given text →
    EndsVisit left left' (waiting_at new id') (is_closing_at new id') end → IfErr end (FailsVisit (has_session old id) w w' r r') →
    Appends held held' text → WhereOpen old id (λ s front. OnOk end (Serves old new id s (front ++ given) held held' []) ×
    IfErr end (StopsServing old new id s front given held held'))
visit_ends most old new id id' given text held held' left left' w w' r r' (Ok Ended) v e fails appended =
    open_map old id (HasWaiting old new id id' given held held') _ (λ s front z. (subst (λ l. Serves old new id s (front ++ given) held held' l) (sym z.1 ∙ e.2) z.3, tt))
    (served_waits most old new id id' given text held held' v appended)
visit_ends most old new id id' given text held held' left left' w w' r r' (Ok Closed) v e fails appended =
    open_map old id (HasWaiting old new id id' given held held') _ (λ s front z. (subst (λ l. Serves old new id s (front ++ given) held held' l) (sym z.1 ∙ e.1) z.3, tt))
    (served_waits most old new id id' given text held held' v appended)
visit_ends most old new id id' given text held held' left left' w w' r r' (Err NoSession) v e fails appended = nowhere old id _ (not_has old id fails)
visit_ends most old new id id' given text held held' left left' w w' r r' (Err OutOfMemory) v e fails appended =
    open_map old id (λ s front. StopsServing old new id s front given (Some []) (Some text) OutOfMemory) _
    (λ s front z. (tt, (z.0, z.1, z.2, z.3, sent_as z.1 new id held held' text z.0 z.4 appended))) v.stopped
visit_ends most old new id id' given text held held' left left' w w' r r' (Err Read) v e fails appended =
    open_map old id (HasWaiting old new id id' given held held') _ (λ s front z. (
      tt,
      (
        subst (λ l. Serves old new id s (front ++ given) held held' l) (sym z.1 ∙ e.1) z.3,
        subst (IsClosing new id) e.0 z.2,
      ),
    )) (served_waits most old new id id' given text held held' v appended)
visit_ends most old new id id' given text held held' left left' w w' r r' (Err Write) v e fails appended =
    open_map old id (HasWaiting old new id id' given held held') _ (λ s front z. (tt, (z.0, subst (λ l. 0 < length l) z.1 e, z.3)))
    (served_waits most old new id id' given text held held' v appended)
visit_ends most old new id id' given text held held' left left' w w' r r' (Err TooManyTurns) v (inl some) fails appended =
    open_map old id (HasWaiting old new id id' given held held') _ (λ s front z. (tt, (z.0, inl (subst (λ l. 0 < length l) z.1 some), z.3)))
    (served_waits most old new id id' given text held held' v appended)
visit_ends most old new id id' given text held held' left left' w w' r r' (Err TooManyTurns) v (inr is_open) fails appended =
    open_map old id (HasWaiting old new id id' given held held') _ (λ s front z. (tt, (z.0, inr (subst (IsClosing new id) is_open z.2), z.3)))
    (served_waits most old new id id' given text held held' v appended)

-- a device with more text
abbrev with_text : Option (List ℕ) → List ℕ → Option (List ℕ)
with_text held text = option_map (λ bytes. bytes ++ text) held

text_first : (held : Option (List ℕ)) (text : List ℕ) → Appends held (with_text held text) text
text_first None text = tt
text_first (Some bytes) text = refl

text_later : (held held' : Option (List ℕ)) (first later : List ℕ) → Appends held held' (first ++ later) → Appends (with_text held first) held' later
text_later None held' first later appended = tt
text_later (Some bytes) held' first later appended = appended ∙ ap Some (sym (append_assoc bytes first later))

-- by then all answers to these bytes were written
had_answered : (most : ℕ) (old : HubState) (id : ℕ) (bytes text : List ℕ) (held held' : Option (List ℕ)) →
    HadServed (ServesSession most old id) waiting_at is_closing_at bytes text → Appends held held' text →
    WhereOpen old id (λ s front. HadAnswered old id s (front ++ bytes) held held')
had_answered most old id bytes text held held' h appended =
    open_map old id (HasWaiting old h.between id h.client bytes held (with_text held h.first)) _ (λ s front z. record {
      between = h.between;
      held_before = with_text held h.first;
      answered = subst (λ l. Serves old h.between id s (front ++ bytes) held (with_text held h.first) l) (sym z.1 ∙ h.none_waits) z.3;
      went_on = subst (IsClosing h.between id) h.is_open z.2;
      later = h.later;
      appended = text_later held held' h.first h.later (subst (Appends held held') h.written appended);
    }) (served_waits most old h.between id h.client bytes h.first held (with_text held h.first) h.served (text_first held h.first))

-- of each piece
before_pieces : (old : HubState) (id : ℕ) (pieces : List (List ℕ)) (held held' : Option (List ℕ)) →
    ((k : ℕ) → k < length pieces → WhereOpen old id (λ s front. HadAnswered old id s (front ++ concat (take k pieces)) held held')) →
    WhereOpen old id (λ s front. AnswersBefore old id s front pieces held held')
before_pieces old id pieces held held' each = where_open old id _ (λ s here not_closing front taken k less.
    at_open old id (λ t f. HadAnswered old id t (f ++ concat (take k pieces)) held held') s front (each k less) here not_closing taken)

both_open : (hub : HubState) (id : ℕ) (P Q : Seat → List ℕ → Type 0) → WhereOpen hub id P → WhereOpen hub id Q → WhereOpen hub id (λ s front. P s front × Q s front)
both_open hub id P Q p q = where_open hub id _ (λ s here not_closing front taken. (
  at_open hub id P s front p here not_closing taken,
  at_open hub id Q s front q here not_closing taken,
))

-- the pieces of a session's visit
pub session_pieces : {W R : Type 0} → (size most : ℕ) (written : W → Option (List ℕ)) (remaining : R → Option (List ℕ)) (calls failures : R → ℕ)
    (writer writer' : W) (reader reader' : R) (old new : HubState) (id id' w w' r r' : ℕ) (end : Result Served ServeError) (rest : List ℕ) →
    ServesPieces size written remaining calls failures writer writer' reader reader' (ServesSession most old id) (CutsSession most old id) waiting_at
    is_closing_at new id' end rest → EndsVisit (remaining reader) (remaining reader') (waiting_at new id') (is_closing_at new id') end →
    IfErr end (FailsVisit (has_session old id) w w' r r') →
    hub.ServesPieces size written remaining calls failures writer writer' reader reader' old new id end rest
session_pieces size most written remaining calls failures writer writer' reader reader' old new id id' w w' r r' end rest v e fails = (
  v.pieces,
  v.given,
  v.whole,
  v.may_leave,
  v.read,
  open_map old id (λ s front. (OnOk end (Serves old new id s (front ++ v.given) (written writer) (written writer') []) ×
      IfErr end (StopsServing old new id s front v.given (written writer) (written writer'))) ×
      AnswersBefore old id s front v.pieces (written writer) (written writer')) _
      (λ s front z. (z.0.0, z.0.1, z.1))
      (both_open old id (λ s front. OnOk end (Serves old new id s (front ++ v.given) (written writer) (written writer') []) ×
      IfErr end (StopsServing old new id s front v.given (written writer) (written writer')))
      (λ s front. AnswersBefore old id s front v.pieces (written writer) (written writer'))
      (visit_ends most old new id id' v.given v.text (written writer) (written writer') (remaining reader) (remaining reader') w w' r r' end v.served e fails
      v.appended)
      (before_pieces old id v.pieces (written writer) (written writer') (λ k less.
      had_answered most old id (concat (take k v.pieces)) v.text (written writer) (written writer') (v.before_each k less) v.appended))),
)

-- at most so many bytes wait at each end
pub session_few : (most : ℕ) (old new : HubState) (id id' : ℕ) (given text : List ℕ) (end : Result Served ServeError) →
    ServesBy (ServesSession most old id) (CutsSession most old id) end new id' given text → WaitsAtMost (most + old.limits.total) old id →
    WaitsAtMost (most + old.limits.total) new id
session_few most old new id id' given text (Ok served) v = v.bounded
session_few most old new id id' given text (Err NoSession) v = v.bounded
session_few most old new id id' given text (Err OutOfMemory) v = v.bounded
session_few most old new id id' given text (Err Read) v = v.bounded
session_few most old new id id' given text (Err Write) v = v.bounded
session_few most old new id id' given text (Err TooManyTurns) v = v.bounded

-- each end says whether the session is closing
ends_by : (most : ℕ) (old new : HubState) (id id' : ℕ) (given text : List ℕ) (left left' : Option (List ℕ)) (end : Result Served ServeError) (has : Bool) →
    has_session old id ≡ has → (has ≡ false → end ≡ Err NoSession) →
    ServesBy (ServesSession most old id) (CutsSession most old id) end new id' given text →
    EndsVisit left left' (waiting_at new id') (is_closing_at new id') end → IfOk end (EndsBy new id left left')
ends_by most old new id id' given text left left' (Err error) has is nobody v e = tt
ends_by most old new id id' given text left left' (Ok Ended) false is nobody v e = absurd (let z = nobody refl in cc)
ends_by most old new id id' given text left left' (Ok Closed) false is nobody v e = absurd (let z = nobody refl in cc)
ends_by most old new id id' given text left left' (Ok Ended) true is nobody v e =
    (e.0, closing_by (seat_at new id) false (v.there ∙ is) (ap (is_closing_at new) (sym v.same_id) ∙ e.1))
ends_by most old new id id' given text left left' (Ok Closed) true is nobody v e =
    closing_by (seat_at new id) true (v.there ∙ is) (ap (is_closing_at new) (sym v.same_id) ∙ e.0)

pub session_ends : (most : ℕ) (old new : HubState) (id id' : ℕ) (given text : List ℕ) (left left' : Option (List ℕ)) (end : Result Served ServeError) →
    (has_session old id ≡ false → end ≡ Err NoSession) → ServesBy (ServesSession most old id) (CutsSession most old id) end new id' given text →
    EndsVisit left left' (waiting_at new id') (is_closing_at new id') end → IfOk end (EndsBy new id left left')
session_ends most old new id id' given text left left' end nobody v e =
    ends_by most old new id id' given text left left' end (has_session old id) refl nobody v e

-- a session of which bytes of a piece are left
pub session_overfull : (most : ℕ) (old new : HubState) (id id' : ℕ) (held held' : Option (List ℕ)) →
    StopsOverfull most held held' (ServesSession most old id) (TakesBytes most) WritesSession waiting_at new id' →
    WhereOpen old id (λ s front. hub.StopsOverfull most old new id s front held held')
session_overfull most old new id id' held held' o =
    let same = o.before.same_id in
    let takes = subst (λ i. TakesBytes most o.between i o.given o.taker o.last) same o.taken in
    let same_taker = takes.same_id in
    let writes = subst (λ i. WritesSession o.given i new id' o.sent) same_taker o.wrote in
    let none = ap (waiting_at o.between) (sym same) ∙ o.none_waits in
    let waits : waiting_at new id' ≡ writes.waits =
    ap (waiting_at new) writes.same_id ∙ sent_waits o.given new id (Some []) (Some o.sent) writes.waits writes.sent in
    open_map old id (HasWaiting old o.between id o.client o.bytes held o.held_between) _ (λ s front z. record {
      before = o.bytes;
      last = o.last;
      between = o.between;
      held_between = o.held_between;
      served = subst (λ l. Serves old o.between id s (front ++ o.bytes) held o.held_between l) (sym z.1 ∙ o.none_waits) z.3;
      overfills = record {
        given = o.given;
        commands = takes.commands;
        answered = takes.answered;
        many = many_by (seat_at o.given id) most (subst (λ i. most < length (waiting_at o.given i)) same_taker o.many);
        bounded = takes.bounded (few_by (seat_at o.between id) (most + o.between.limits.total) none);
        sent = (
          writes.waits,
          subst (λ l. 0 < length l) waits o.some,
          sent_as o.given new id o.held_between held' o.sent writes.waits writes.sent o.appended_last,
        );
      };
    }) (served_waits most old o.between id o.client o.bytes o.text held o.held_between o.before o.appended)

-- A session that was closing.

closing_by_end : (old new : HubState) (id : ℕ) (held held' left left' : Option (List ℕ)) (waiting waits : List ℕ) (closing has : Bool) (w w' r r' : ℕ)
    (end : Result Served ServeError) → has ≡ true → waiting ≡ waits → closing ≡ true → HasSent old new id held held' waits → (end ≡ Err OutOfMemory → ⊥) →
    EndsVisit left left' waiting closing end → IfErr end (FailsVisit has w w' r r') → ServesClosing old new id held held' end
closing_by_end old new id held held' left left' waiting waits closing has w w' r r' (Ok Ended) known is still sent memory e fails =
    absurd (false≢true (sym e.1 ∙ still))
closing_by_end old new id held held' left left' waiting waits closing has w w' r r' (Ok Closed) known is still sent memory e fails =
    subst (HasSent old new id held held') (sym is ∙ e.1) sent
closing_by_end old new id held held' left left' waiting waits closing has w w' r r' (Err NoSession) known is still sent memory e fails =
    absurd (false≢true (sym fails ∙ known))
closing_by_end old new id held held' left left' waiting waits closing has w w' r r' (Err OutOfMemory) known is still sent memory e fails = absurd (memory refl)
closing_by_end old new id held held' left left' waiting waits closing has w w' r r' (Err Read) known is still sent memory e fails =
    absurd (false≢true (sym e.0 ∙ still))
closing_by_end old new id held held' left left' waiting waits closing has w w' r r' (Err Write) known is still sent memory e fails =
    (waits, subst (λ l. 0 < length l) is e, sent)
closing_by_end old new id held held' left left' waiting waits closing has w w' r r' (Err TooManyTurns) known is still sent memory (inl some) fails =
    (waits, subst (λ l. 0 < length l) is some, sent)
closing_by_end old new id held held' left left' waiting waits closing has w w' r r' (Err TooManyTurns) known is still sent memory (inr is_open) fails =
    absurd (false≢true (sym is_open ∙ still))

closing_ends : (old new : HubState) (id id' : ℕ) (held held' left left' : Option (List ℕ)) (w w' r r' : ℕ) (end : Result Served ServeError) →
    has_session old id ≡ true → is_closing_at old id ≡ true → WritesClosing WritesSession held held' old id new id' end →
    EndsVisit left left' (waiting_at new id') (is_closing_at new id') end → IfErr end (FailsVisit (has_session old id) w w' r r') →
    ServesClosing old new id held held' end
closing_ends old new id id' held held' left left' w w' r r' end has closing v e fails =
    let s = v.wrote.sent in
    let sent = sent_as old new id held held' v.text v.wrote.waits s v.appended in
    let waits : waiting_at new id' ≡ v.wrote.waits = ap (waiting_at new) v.wrote.same_id ∙ sent_waits old new id (Some []) (Some v.text) v.wrote.waits s in
    let still : is_closing_at new id' ≡ true =
    ap (is_closing_at new) v.wrote.same_id ∙ sent_closing old new id (Some []) (Some v.text) v.wrote.waits s ∙ closing in
    closing_by_end old new id held held' left left' (waiting_at new id') v.wrote.waits (is_closing_at new id') (has_session old id) w w' r r' end has waits still
    sent v.no_memory e fails

-- why each call failed
pub session_fails : (old : HubState) (id w w' r r' : ℕ) (end : Result Served ServeError) → IfErr end (FailsVisit (has_session old id) w w' r r') →
    IfErr end (FailsServing old id w w' r r')
session_fails old id w w' r r' (Ok served) fails = tt
session_fails old id w w' r r' (Err NoSession) fails = not_has old id fails
session_fails old id w w' r r' (Err OutOfMemory) fails = tt
session_fails old id w w' r r' (Err Read) fails = fails
session_fails old id w w' r r' (Err Write) fails = fails
session_fails old id w w' r r' (Err TooManyTurns) fails = tt

closing_at : (old : HubState) (id : ℕ) (P : Type 0) (o : Option Seat) → seat_at old id ≡ o → (has_session old id ≡ true → is_closing_at old id ≡ true → P) →
    IfSome o (λ (s : Seat). s.closing ≡ true → P)
closing_at old id P None is all = tt
closing_at old id P (Some s) is all =
    λ closing. all (ap is_some is) (ap (λ o. unwrap_or (option_map (λ (t : Seat). t.closing) o) false) is ∙ closing)

-- what is written of a session that is closing
pub session_closing : {R : Type 0} → (old new : HubState) (id id' : ℕ) (held held' left left' : Option (List ℕ)) (w w' r r' : ℕ) (reader reader' : R)
    (end : Result Served ServeError) →
    (has_session old id ≡ true → is_closing_at old id ≡ true → (reader' ≡ reader) × WritesClosing WritesSession held held' old id new id' end) →
    EndsVisit left left' (waiting_at new id') (is_closing_at new id') end → IfErr end (FailsVisit (has_session old id) w w' r r') →
    IfSome (seat_at old id) (λ (s : Seat). s.closing ≡ true → (reader' ≡ reader) × ServesClosing old new id held held' end)
session_closing old new id id' held held' left left' w w' r r' reader reader' end all e fails =
    closing_at old id ((reader' ≡ reader) × ServesClosing old new id held held' end) (seat_at old id) refl (λ has closing. (
      (all has closing).0,
      closing_ends old new id id' held held' left left' w w' r r' end has closing (all has closing).1 e fails,
    ))

-- a hub that does not have the session
pub hub_has_none : (hub : HubState) (id : ℕ) → seat_at hub id ≡ None → has_session hub id ≡ false
hub_has_none hub id none = ap is_some none
