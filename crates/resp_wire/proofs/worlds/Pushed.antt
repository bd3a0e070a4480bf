-- Pushes and drops in a world.
use Rattle.std.proofs.Common.{◌≡◌, ℕ, suc, ◌<◌, true, false, Some, List, [], ◌∷◌, ◌++◌, length, map, drop, set, slice_get, refl, sym, ap, subst, ◌∙◌, None, Ok, Result}
use Rattle.std.proofs.lemmas.List.{append-nil, drop-append-le, map-append}
use Rattle.std.proofs.lemmas.List.Folds.{concat-append}
use Rattle.std.specs.List.{concat}
use Rattle.std.specs.Prelude.{IsErrOf}
use Rattle.resp_value.specs.Bounds.{Bounds}
use Rattle.resp_value.specs.Canonical.{IsValue, canonical_text}
use Rattle.resp_value.specs.Data.{Datum}
use Rattle.resp_value.specs.Values.{datum_of}
use Rattle.resp_value.specs.declared.cause.Cause.{Cause}
use Rattle.resp_value.specs.declared.cause.Cause.TheVariants as cause
use Rattle.resp_value.specs.declared.value.Value.{Value}
use Rattle.resp_value.specs.declared.version.Version.{Version}
use Rattle.resp_value.specs.declared.version.Version.TheVariants.{Two, Three}
use Rattle.resp_session.specs.Connections.{Connection, Message, as_dropped, back_text, message_text, push_message, with_message}
use Rattle.resp_session.specs.Heard.{pushes_of, replies_of}
use Rattle.resp_session.specs.Reading.{ReadsAs}
use Rattle.resp_session.specs.Runs.{Done, RefusesEvent, RefusesPush, Step, is_gone, connection_of}
use Rattle.resp_session.specs.Serving.{WhatHasComeWasSent}
use Rattle.resp_session.specs.WorldLaws.{AChangeIsOfOneConnection, WhatIsLeftMayGoOn, WhatIsReadIsShown, waiting_for}
use Rattle.resp_session.specs.Worlds.{Drop, Push, World, after_event, connection_at}
use Rattle.resp_server.specs.Hubs.{HubState, Seat, seat_at, seated, without_seat}
use Rattle.resp_server.specs.PushRefusals as server
use Rattle.resp_server.specs.declared.error.PushError.{PushError}
use Rattle.resp_server.specs.declared.error.PushError.TheVariants as push
use Rattle.resp_client.specs.Clients.{state_of}
use Rattle.resp_wire.specs.Worlds.{ShowsClient, ShowsEach, Stands}
use Rattle.resp_wire.specs.declared.end.End.{End}
use Rattle.resp_wire.proofs.Seated.{seat_here}
use Rattle.resp_wire.proofs.worlds.Carried.{still_shown}
use Rattle.resp_wire.proofs.worlds.Frames.{IsFramed, beyond, framed}
use Rattle.resp_wire.proofs.worlds.Places.{never_gone, seats_elsewhere, seats_left}

-- a session that took a push, or had no memory for it, refuses it for no cause
pub push_not_refused : (limits : Bounds) (s : Seat) (version : Version) (x : Datum) (answer : Result (Unit {0}) PushError) → s.version ≡ version →
    s.closing ≡ false → server.IsPushVerdict limits (Some s) x answer → ((error : PushError) → IsErrOf answer error → error ≡ push.OutOfMemory) →
    (cause : Cause) → RefusesPush limits version x cause → ⊥
push_not_refused limits s version x answer same is_open v only cause.Syntax r = r
push_not_refused limits s version x answer same is_open v only cause.Double r =
    let e = only push.Double (v.every push.Double (λ e. absurd (cc)) ((is_open, same ∙ r.0), r.1)) in absurd (cc)
push_not_refused limits s version x answer same is_open v only cause.Version r = r
push_not_refused limits s version x answer same is_open v only cause.NestedPush r = r
push_not_refused limits s version x answer same is_open v only cause.Range r = r
push_not_refused limits s version x answer same is_open v only cause.Depth r = r
push_not_refused limits s version x answer same is_open v only cause.Length r = r
push_not_refused limits s version x answer same is_open v only cause.Total r = r
push_not_refused limits s version x answer same is_open v only cause.Truncated r = r
push_not_refused limits s version x answer same is_open v only cause.OutOfMemory r = r
push_not_refused limits s version x answer same is_open v only cause.Streamed r = r
push_not_refused limits s version x answer same is_open v only cause.Items r = r
push_not_refused limits s version x answer same is_open v only cause.Unasked r = r
push_not_refused limits s version x answer same is_open v only cause.TooLarge r = r
push_not_refused limits s version x answer same is_open v only cause.BadCommand r = r
push_not_refused limits s version x answer same is_open v only cause.TooMany r = r
push_not_refused limits s version x answer same is_open v only cause.TooManySessions r = r
push_not_refused limits s version x answer same is_open v only cause.NoSession r = r
push_not_refused limits s version x answer same is_open v only cause.Closing r = r
push_not_refused limits s version x answer same is_open v only cause.NotInVersion r =
    let e = only push.NotInVersion (v.every push.NotInVersion (λ e. absurd (cc)) (is_open, same ∙ r)) in absurd (cc)
push_not_refused limits s version x answer same is_open v only cause.PushBelowTop r =
    let e = only push.NestedPush (v.every push.NestedPush (λ e. absurd (cc)) ((is_open, same ∙ r.0), r.1, r.2)) in absurd (cc)
push_not_refused limits s version x answer same is_open v only (cause.OverLimits limit) r =
    let e = only (push.OverLimits limit) (v.every (push.OverLimits limit) (λ e. absurd (cc)) ((is_open, same ∙ r.0), r.1, r.2, r.3)) in absurd (cc)
push_not_refused limits s version x answer same is_open v only cause.Read r = r
push_not_refused limits s version x answer same is_open v only cause.Write r = r
push_not_refused limits s version x answer same is_open v only cause.TooManyTurns r = r
push_not_refused limits s version x answer same is_open v only cause.Ended r = r
push_not_refused limits s version x answer same is_open v only cause.BadLine r = r
push_not_refused limits s version x answer same is_open v only cause.BadDigits r = r
push_not_refused limits s version x answer same is_open v only cause.Busy r = r
push_not_refused limits s version x answer same is_open v only cause.BadLimits r = r

-- the session after a push
abbrev pub pushed_seat : Datum → Seat → Seat
pushed_seat x s = record s { out = s.out ++ canonical_text Three x }

-- the text of the messages with one more
one_more_message : (m : Message) (c : Connection) → back_text (with_message m c) ≡ back_text c ++ message_text m
one_more_message m c =
    ap concat (map-append message_text c.messages (m ∷ [])) ∙ concat-append (map message_text c.messages) (message_text m ∷ []) ∙
    ap (λ l. back_text c ++ l) (append-nil (message_text m))

pub pushed : WhatIsReadIsShown → WhatIsLeftMayGoOn → WhatHasComeWasSent → AChangeIsOfOneConnection → (limits : Bounds) (hub hub' : HubState)
    (ends : List End) (order : List ℕ) (w : World) (at : ShowsEach limits hub ends order w) (i : ℕ) (items : List Value) (e : End) (c : Connection) →
    slice_get ends i ≡ Some e → connection_at w.connections (suc i) ≡ Some c → (is_open : c.dropped ≡ false) → i < length ends →
    (s : Stands limits (seat_at hub (suc i)) e c) → server.IsPushVerdict limits (Some s.session) (push_message (map datum_of items)).value (Ok tt) → IsValue
    (push_message (map datum_of items)).value →
    hub' ≡ seated hub (suc i) (pushed_seat (push_message (map datum_of items)).value s.session) →
    Step limits w (Push (suc i) (map datum_of items)) Done (after_event w (Push (suc i) (map datum_of items))) ×
    ShowsEach limits hub' (set ends i e) order (after_event w (Push (suc i) (map datum_of items)))
pushed nothing_else goes_on sent change limits hub hub' ends order w at i items e c here its is_open within s verdict is_value now =
    let m = push_message (map datum_of items) in
    let event = Push (suc i) (map datum_of items) in
    let next = after_event w event in
    let old = at.each i e c here its in
    let refuses : (cause : Cause) → RefusesEvent limits (connection_of w event) event cause → ⊥ =
    λ cause r. push_not_refused limits s.session c.version (push_message (map datum_of items)).value (Ok tt) s.version s.is_open verdict (λ error e. absurd (cc)) cause
    (subst (λ o. RefusesEvent limits o event cause) its r) in
    let step : Step limits w event Done next = (ap is_gone its ∙ is_open, refuses, refl) in
    let b = beyond limits hub ends order w next event at step is_value in
    let of_one = change (with_message m) w.connections (suc i) in
    let there : connection_at next.connections (suc i) ≡ Some (with_message m c) = of_one.1 c its in
    let seat = pushed_seat (push_message (map datum_of items)).value s.session in
    let longer = one_more_message m c in
    let has_come = (sent limits at.n at.events w at.run (suc i) c its).1 in
    let same = still_shown nothing_else goes_on sent limits hub ends order w next at b (suc i) c (with_message m c) (seat_at hub (suc i)) e its there refl refl
    (message_text m) longer s in
    let frame : IsFramed i hub hub' w next = record {
      limits = ap (λ (h : HubState). h.limits) now;
      store = ap (λ (h : HubState). h.store) now ∙ at.store;
      as_many = of_one.0;
      others = of_one.2;
      seats = λ j other. ap (λ h. seat_at h j) now ∙ seats_elsewhere hub (suc i) j seat other;
    } in
    let client : ShowsClient limits (seat_at hub' (suc i)) e (with_message m c) = record {
      asked = old.asked;
      replies = old.replies ∙ ap replies_of same.0;
      pushes = old.pushes ∙ ap pushes_of same.0;
      dropped = old.dropped;
      gone = never_gone c _ is_open;
      stands = λ _. record {
        session = seat;
        there = ap (λ h. seat_at h (suc i)) now ∙ seat_here hub (suc i) s.session seat s.there;
        version = s.version;
        is_open = s.is_open;
        answers = ap (λ l. l ++ message_text m) s.answers ∙ sym (drop-append-le c.shown (back_text c) (message_text m) has_come) ∙
            sym (ap (drop c.shown) longer);
        front = s.front;
        taking = s.taking;
        unfinished = record { front = s.unfinished.front; spelled = s.unfinished.spelled; whole = s.unfinished.whole };
        same_limits = s.same_limits;
        asks = s.asks;
        same_count = s.same_count;
        text = s.text;
        rest = s.rest;
        reads = subst (λ xs. ReadsAs limits (waiting_for Two c.requests) xs s.text (state_of e.client).waiting) same.0 s.reads;
        whole = same.1 ∙ s.whole;
        reading = s.reading;
      };
    } in
    (step, framed limits hub hub' ends order order w next i e (with_message m c) at b frame at.ordered within there client)

pub dropped : AChangeIsOfOneConnection → (limits : Bounds) (hub hub' : HubState) (ends : List End) (order : List ℕ) (w : World)
    (at : ShowsEach limits hub ends order w) (i : ℕ) (e : End) (c : Connection) → slice_get ends i ≡ Some e →
    connection_at w.connections (suc i) ≡ Some c → (is_open : c.dropped ≡ false) → i < length ends →
    hub' ≡ record hub { sessions = without_seat hub.sessions (suc i) } → seat_at hub' (suc i) ≡ None →
    Step limits w (Drop (suc i)) Done (after_event w (Drop (suc i))) ×
    ShowsEach limits hub' (set ends i (record e { is_dropped = true })) order (after_event w (Drop (suc i)))
dropped change limits hub hub' ends order w at i e c here its is_open within now none =
    let event = Drop (suc i) in
    let next = after_event w event in
    let old = at.each i e c here its in
    let step : Step limits w event Done next = (ap is_gone its ∙ is_open, (λ cause r. r), refl) in
    let b = beyond limits hub ends order w next event at step tt in
    let of_one = change as_dropped w.connections (suc i) in
    let there : connection_at next.connections (suc i) ≡ Some (as_dropped c) = of_one.1 c its in
    let frame : IsFramed i hub hub' w next = record {
      limits = ap (λ (h : HubState). h.limits) now;
      store = ap (λ (h : HubState). h.store) now ∙ at.store;
      as_many = of_one.0;
      others = of_one.2;
      seats = λ j other. ap (λ h. seat_at h j) now ∙ seats_left hub (suc i) j other;
    } in
    let client : ShowsClient limits (seat_at hub' (suc i)) (record e { is_dropped = true }) (as_dropped c) = record {
      asked = old.asked;
      replies = old.replies;
      pushes = old.pushes;
      dropped = refl;
      gone = λ _. none;
      stands = λ open_still. let never : true ≡ false = open_still in absurd (cc);
    } in
    (step, framed limits hub hub' ends order order w next i (record e { is_dropped = true }) (as_dropped c) at b frame at.ordered within there client)
