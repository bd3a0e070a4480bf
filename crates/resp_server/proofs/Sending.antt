-- The bytes of a session that were written.
use Rattle.std.proofs.Common.{arith, length, length-drop, take, drop, ◌≡◌, ◌<◌, ℕ, Option, Some, List, [], IfSome, OnErr, OnOk, ap, sym, subst, ◌∙◌}
use Rattle.std.specs.Map.{lookup, set_value}
use Rattle.std.proofs.lemmas.List.{drop_all, take-append-drop}
use Rattle.resp_value.specs.Bounds.{Bounds}
use Rattle.resp_io.specs.Devices.{Appends}
use Rattle.resp_session.specs.Stores.{Store}
use Rattle.resp_server.specs.Hubs.{HubState, Seat, seat_of, seated}
use Rattle.resp_server.specs.Sending.{HasSent, HasSentPart}
use Rattle.resp_server.specs.declared.session.Session.{Session}
use Rattle.resp_server.proofs.Seats.{is_id, same_seat, seat_is, seated_is, state_of}
use Rattle.resp_io.specs.declared.write.Written.{Written}
use Rattle.resp_io.proofs.Turning.{on_err, on_ok}

-- this many of the bytes that waited in a session were written, and no longer wait
session_sent : {hub : HubState} (limits : Bounds) (es : List (ℕ × Session)) (store : Store) (last : ℕ) → state_of limits es store last ≡ hub →
    {ns : List (ℕ × Session)} {id : ℕ} {old : Session} (new : Session) → ns ≡ set_value (is_id id) es new → Some old ≡ lookup (is_id id) es →
    {held held' : Option (List ℕ)} (count : ℕ) → seat_of new ≡ record (seat_of old) { out = drop count old.out.items } →
    Appends held held' (take count old.out.items) → HasSent hub (state_of limits ns store last) id held held' (drop count old.out.items)
session_sent {hub} limits es store last view {ns} {id} {old} new written found count changed appended =
    let here = seat_is limits es store last hub view id found in
    let change : Seat → Seat = λ s. record s { out = drop count s.out } in
    record {
      seat = seat_of old;
      here = here;
      text = take count old.out.items;
      parts = sym (take-append-drop count old.out.items);
      appended = appended;
      state = subst (λ o. IfSome o (λ s. state_of limits ns store last ≡ seated hub id (change s))) here
          (seated_is limits es store last view id new written found change changed);
    }

all_dropped : {count : ℕ} (text : List ℕ) → count ≡ length text → drop count text ≡ []
all_dropped {count} text whole = drop_all count text (omega (arith, whole))

-- all that waited was written, or only a part of it
pub written_out : {hub : HubState} (limits : Bounds) (es : List (ℕ × Session)) (store : Store) (last : ℕ) → state_of limits es store last ≡ hub →
    {ns : List (ℕ × Session)} {old : Session} (id : ℕ) (new : Session) → ns ≡ set_value (is_id id) es new → Some old ≡ lookup (is_id id) es →
    {text : List ℕ} → text ≡ old.out.items → (w : Written) (held held' : Option (List ℕ)) → new.version ≡ old.version →
    new.out.items ≡ drop w.count old.out.items → new.closing ≡ old.closing → new.decoder ≡ old.decoder → Appends held held' (take w.count text) →
    OnOk w.end (w.count ≡ length text) → OnErr w.end (w.count < length text) → OnOk w.end (HasSent hub (state_of limits ns store last) id held held' []) ×
    OnErr w.end (HasSentPart hub (state_of limits ns store last) id held held')
written_out {hub} limits es store last view {ns} {old} id new written found same w held held' version out closing decoder appended whole part =
    let sent = session_sent limits es store last view new written found w.count
    (same_seat new old version out closing decoder) (subst (λ t. Appends held held' (take w.count t)) same appended) in (
      on_ok w.end (λ all. subst (HasSent hub (state_of limits ns store last) id held held') (all_dropped old.out.items (all ∙ ap length same)) sent) whole,
      on_err w.end (λ less. (
        drop w.count old.out.items,
        let rest = length-drop w.count old.out.items in let size = ap length same in omega (arith, less, rest, size),
        sent,
      )) part,
    )
