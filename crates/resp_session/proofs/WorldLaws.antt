-- The laws of worlds.
use Rattle.std.proofs.Common.{◌≡◌, ℕ, ◌+◌, Bool, true, false, not, cond, filter, List, [], ◌∷◌, ◌++◌, length, map, take, drop, Some, refl, sym, ap, ◌∙◌, arith, length-append}
use Rattle.std.proofs.lemmas.List.{map-append, length-map, take-append-drop}
use Rattle.std.proofs.lemmas.List.Elements.{filter-append}
use Rattle.resp_value.specs.Bounds.{Bounds}
use Rattle.resp_value.specs.Data.{Datum}
use Rattle.resp_session.specs.Heard.{is_push, replies_of}
use Rattle.resp_session.specs.Requests.{request_words, request_text}
use Rattle.resp_session.specs.Connections.{Connection, Message, message_text, values_of, whole_within, shown_messages, shown_replies, arrived_requests}
use Rattle.resp_session.specs.Worlds.{World, WorldEvent, connection_at, new_world}
use Rattle.resp_session.specs.Runs.{Run}
use Rattle.resp_session.specs.Orders.{IsBeginning, part_of_client, sent_replies}
use Rattle.resp_session.specs.WorldLaws.{AWorldHasOneOrder, ARunIsCut, ShownRepliesAreOfTheOrder, WhatIsShownWasSent}
use Rattle.resp_session.proofs.Parts.{Holds}
use Rattle.resp_session.proofs.Replays.{a_run_keeps}
use Rattle.resp_session.proofs.WorldsHold.{run_holds, new_world_holds}

-- what stands of a connection of a world of a run
holds_at : (limits : Bounds) (n : ℕ) (events : List WorldEvent) (w : World) → Run limits (new_world n) events w → (i : ℕ) (c : Connection) →
    connection_at w.connections i ≡ Some c → Holds i c w.order
holds_at limits n events w r i c at = run_holds limits (new_world n) events w r (new_world_holds n) i c at

part_begins : (i : ℕ) (c : Connection) (order : List (ℕ × List (List ℕ))) → Holds i c order →
    IsBeginning (part_of_client i order) (map request_words c.requests)
part_begins i c order h =
    let k = whole_within (map request_text c.requests) c.arrived in
    let later = drop k c.requests in (
      map request_words later,
      ap (map request_words) (sym (take-append-drop k c.requests)) ∙ map-append request_words (arrived_requests c) later ∙
          ap (λ l. l ++ map request_words later) (sym h.part),
    )

pub a_world_has_one_order : AWorldHasOneOrder
a_world_has_one_order limits n events w r = let kept = a_run_keeps limits n events w r in record {
  count = kept.count;
  clients = kept.clients;
  replay = kept.agrees;
  parts = λ i c at. part_begins i c w.order (holds_at limits n events w r i c at);
}

pub a_run_is_cut : ARunIsCut
a_run_is_cut limits w v [] more r = (w, refl, r)
a_run_is_cut limits w v (event ∷ events) more r =
    let (outcome, next, s, t) = r in
    let (u, before, beyond) = a_run_is_cut limits next v events more t in
    (u, (outcome, next, s, before), beyond)

-- the values of the messages that aren't shown
abbrev values_after : Connection → List Datum
values_after c = values_of (drop (whole_within (map message_text c.messages) c.shown) c.messages)

-- the values of the messages that are shown, and those of the others
values_cut : (c : Connection) → values_of c.messages ≡ values_of (shown_messages c) ++ values_after c
values_cut c =
    let k = whole_within (map message_text c.messages) c.shown in
    ap values_of (sym (take-append-drop k c.messages)) ∙ map-append (λ (m : Message). m.value) (take k c.messages) (drop k c.messages)

filter_begins : (p : Datum → Bool) (xs ys whole : List Datum) → whole ≡ xs ++ ys → IsBeginning (filter p xs) (filter p whole)
filter_begins p xs ys whole e = (filter p ys, ap (filter p) e ∙ filter-append p xs ys)

pub what_is_shown_was_sent : WhatIsShownWasSent
what_is_shown_was_sent c =
    let shown = values_of (shown_messages c) in (
      filter_begins (λ x. not (is_push x)) shown (values_after c) (values_of c.messages) (values_cut c),
      filter_begins is_push shown (values_after c) (values_of c.messages) (values_cut c),
    )

kept_or_not : (kept : Bool) (m : Message) (xs : List Datum) (ms : List Message) → xs ≡ values_of ms →
    cond kept (m.value ∷ xs) xs ≡ values_of (cond kept (m ∷ ms) ms)
kept_or_not true m xs ms e = ap (λ l. m.value ∷ l) e
kept_or_not false m xs ms e = e

-- the replies among the values of messages are the values of those that are replies
replies_of-values_of : (messages : List Message) → replies_of (values_of messages) ≡ values_of (filter (λ (m : Message). not (is_push m.value)) messages)
replies_of-values_of [] = refl
replies_of-values_of (m ∷ messages) = kept_or_not (not (is_push m.value)) m _ _ (replies_of-values_of messages)

pub shown_replies_are_of_the_order : ShownRepliesAreOfTheOrder
shown_replies_are_of_the_order limits n events w r i c at =
    let h = holds_at limits n events w r i c at in
    let (rest, e) = (what_is_shown_was_sent c).0 in
    let size : length (replies_of (values_of c.messages)) ≡ length (shown_replies c) + length rest = ap length e ∙ length-append (shown_replies c) rest in
    let count : length (replies_of (values_of c.messages)) ≡ length (sent_replies c) =
    ap length (replies_of-values_of c.messages) ∙ length-map (sent_replies c) (λ (m : Message). m.value) in
    let replies = h.replies in
    omega (arith, size, count, replies)
