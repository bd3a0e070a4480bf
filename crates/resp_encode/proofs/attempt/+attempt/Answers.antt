use Rattle.std.proofs.Common.{◌≡◌, inl, inr, ℕ, ◌/◌, true, length, map, take, sym, ap, ◌∙◌, subst}
use Rattle.std.specs.Bool.{OnTrue}
use Rattle.resp_value.specs.Data.{data_of_list, in_turn, aggregate, count}
use Rattle.resp_value.specs.Data as d
use Rattle.resp_value.specs.Canonical.{IsWhole, HasNoPush}
use Rattle.resp_value.specs.Values.{datum_of, pair_data, extended, line_text, double_text, content_bytes, is_negative, digits_text}
use Rattle.resp_value.proofs.DatumOf.{datum_of-Array, datum_of-Set, datum_of-Map, datum_of-Attr, in_turn_is_whole, annotated_is_whole}
use Rattle.resp_encode.specs.Walks.Attempts.{Attempt, AttemptEach, AttemptInside}
use Rattle.resp_value.specs.Kinds.{kind_of}
use Rattle.resp_encode.proofs.Attempted.{inside_tried, one_more_tried, aggregate_tried, annotated_tried, is_below, is_whole}
use Rattle.resp_encode.proofs.Counts.{count-map, count-in_turn, count-annotated}
use Rattle.resp_encode.proofs.Extended.{data_of_list-push}
use Rattle.resp_encode.proofs.Parts.{map_data, attr_data}
use Rattle.resp_encode.proofs.SoFar.{data-take_more, pairs-taken}
use Rattle.resp_encode.proofs.attempt.+attempt.Goals as goal
use Rattle.resp_encode.proofs.attempt.+attempt.Goals.{attempt_value-After-attempt_annotated}

pub attempt_value-returns-in-Null-clause-attempt : goal.attempt_value-returns-in-Null-clause-attempt
attempt_value-returns-in-Null-clause-attempt t c = rw c.in-Null.is (c.attempt_null.ensures c.args.deeper)

pub attempt_value-returns-in-Int-clause-attempt : goal.attempt_value-returns-in-Int-clause-attempt
attempt_value-returns-in-Int-clause-attempt t c = rw c.in-Int.is (c.attempt_int.ensures c.args.version c.args.limits.now c.args.deeper)

pub attempt_value-returns-in-Simple-clause-attempt : goal.attempt_value-returns-in-Simple-clause-attempt
attempt_value-returns-in-Simple-clause-attempt t c = rw c.in-Simple.is (c.attempt_simple.ensures c.args.deeper)

pub attempt_value-returns-in-Bulk-clause-attempt : goal.attempt_value-returns-in-Bulk-clause-attempt
attempt_value-returns-in-Bulk-clause-attempt t c = rw c.in-Bulk.is (c.attempt_bulk.ensures c.args.version c.args.deeper)

pub attempt_value-returns-in-Bool-clause-attempt : goal.attempt_value-returns-in-Bool-clause-attempt
attempt_value-returns-in-Bool-clause-attempt t c =
    let ends = c.attempt_scalar.ensures in
    elim c.in-Bool.is [
      | inl bool ↦ ends (d.Bool bool.0) (ap datum_of bool.1) c.args.deeper
      | inr (inl error) ↦ ends (d.Error (line_text error.0)) (ap datum_of error.1) c.args.deeper
      | inr (inr (inl double)) ↦ ends (d.Double (double_text double.0)) (ap datum_of double.1) c.args.deeper
      | inr (inr (inr (inl bulk))) ↦ ends (d.BulkError (content_bytes bulk.0)) (ap datum_of bulk.1) c.args.deeper
      | inr (inr (inr (inr (inl text)))) ↦ ends (d.Verbatim text.0 (content_bytes text.1)) (ap datum_of text.2) c.args.deeper
      | inr (inr (inr (inr (inr big)))) ↦ ends (d.Big (is_negative big.0) (digits_text big.0)) (ap datum_of big.1) c.args.deeper
    ]

pub attempt_value-returns-in-Array-clause-attempt : goal.attempt_value-returns-in-Array-clause-attempt
attempt_value-returns-in-Array-clause-attempt t c =
    rw (c.in-Array.is, datum_of-Array c.in-Array.members, ← c.list.ensures) c.attempt_group.ensures

pub attempt_value-returns-in-Array-clause-no_push : goal.attempt_value-returns-in-Array-clause-no_push
attempt_value-returns-in-Array-clause-no_push t c = subst (λ x. OnTrue c.attempt_group.result (HasNoPush x))
    (ap (λ xs. aggregate d.Array (data_of_list (map datum_of xs))) c.list.ensures ∙
    sym (ap datum_of c.in-Array.is ∙ datum_of-Array c.in-Array.members))
    (is_below c.args.version c.args.limits.now c.args.deeper d.Array _ c.attempt_group.result tt
    c.attempt_group.ensures.suits)

pub attempt_value-returns-in-Set-clause-attempt : goal.attempt_value-returns-in-Set-clause-attempt
attempt_value-returns-in-Set-clause-attempt t c =
    rw (c.in-Set.is, datum_of-Set c.in-Set.members, ← c.list-in-Set.ensures) c.attempt_group-in-Set.ensures

pub attempt_value-returns-in-Set-clause-no_push : goal.attempt_value-returns-in-Set-clause-no_push
attempt_value-returns-in-Set-clause-no_push t c = subst (λ x. OnTrue c.attempt_group-in-Set.result (HasNoPush x))
    (ap (λ xs. aggregate d.Set (data_of_list (map datum_of xs))) c.list-in-Set.ensures ∙
    sym (ap datum_of c.in-Set.is ∙ datum_of-Set c.in-Set.members))
    (is_below c.args.version c.args.limits.now c.args.deeper d.Set _ c.attempt_group-in-Set.result tt
    c.attempt_group-in-Set.ensures.suits)

map_tried : (t : ℕ) (c : goal.attempt_value-After-attempt_counted_pairs t) → (
    Attempt c.args.version c.args.limits.now c.args.deeper (datum_of c.args.value.now) c.args.out.now
    c.attempt_counted_pairs.new.out c.attempt_counted_pairs.result ×
    OnTrue c.attempt_counted_pairs.result (HasNoPush (datum_of c.args.value.now)))
map_tried t c =
    let pairs = c.list-in-Map.result.now in
    let same = map_data c.list-in-Map.ensures ∙ sym (ap datum_of c.in-Map.is ∙ datum_of-Map c.in-Map.pairs) in
    let tried = aggregate_tried c.args.version c.args.limits.now c.args.deeper d.Map
    (data_of_list (in_turn (map pair_data pairs))) (length pairs) c.attempt_counted_pairs.result
    (count-in_turn pair_data pairs) (in_turn_is_whole (map pair_data pairs)) c.attempt_counted_pairs.ensures in (
      subst (λ x. Attempt c.args.version c.args.limits.now c.args.deeper x c.args.out.now
          c.attempt_counted_pairs.new.out c.attempt_counted_pairs.result) same tried,
      subst (λ x. OnTrue c.attempt_counted_pairs.result (HasNoPush x)) same
          (is_below c.args.version c.args.limits.now c.args.deeper d.Map _ c.attempt_counted_pairs.result tt tried.suits),
    )

pub attempt_value-returns-in-Map-clause-attempt : goal.attempt_value-returns-in-Map-clause-attempt
attempt_value-returns-in-Map-clause-attempt t c = (map_tried t c).0

pub attempt_value-returns-in-Map-clause-no_push : goal.attempt_value-returns-in-Map-clause-no_push
attempt_value-returns-in-Map-clause-no_push t c = (map_tried t c).1

pub attempt_group-returns : goal.attempt_group-returns
attempt_group-returns t c =
    let xs = data_of_list (map datum_of c.args.members.now) in
    let head = c.if-not-attempt_head.ensures in
    aggregate_tried c.args.version c.args.limits.now c.args.deeper (kind_of c.args.kind) xs (length c.args.members.now)
    c.attempt_members.result
    (c.requires (count xs) ∙ count-map datum_of c.args.members.now) (is_whole c.args.kind c.requires (count xs))
    (inside_tried c.args.version c.args.limits.now c.args.deeper (kind_of c.args.kind) xs (length c.args.members.now)
    c.attempt_members.result head.writes head.has_kind head.within_depth head.within_items c.attempt_members.ensures)

pub attempt_counted_pairs-returns : goal.attempt_counted_pairs-returns
attempt_counted_pairs-returns t c =
    let pairs = c.args.pairs.now in
    let head = c.if-not-attempt_head.ensures in
    inside_tried c.args.version c.args.limits.now c.args.deeper (kind_of c.args.kind)
    (data_of_list (in_turn (map pair_data pairs))) (length pairs) c.attempt_pairs.result head.writes
    head.has_kind head.within_depth head.within_items c.attempt_pairs.ensures

pub attempt_members-loop-member-preserved : goal.attempt_members-loop-member-preserved
attempt_members-loop-member-preserved t c =
    let i = c.loop-member.member-index in
    let front = data_of_list (map datum_of (take i c.args.members.now)) in
    let one_more = data-take_more datum_of c.args.members.now i c.member-item.result c.loop-member-test.true in
    let tried = one_more_tried c.args.version c.args.limits.now c.args.deeper front (datum_of c.member-item.result) true
    c.loop-member.invariant.whole
    c.loop-member.invariant.suits c.if-not-attempt_value.ensures.attempt c.if-not-attempt_value.ensures.no_push in
    let each = subst (λ xs. AttemptEach c.args.version c.args.limits.now c.args.deeper xs c.args.out.now
    c.attempt_value.new.out true)
    (ap (λ x. extended front (datum_of x)) c.member-item.is ∙ sym one_more) tried in
    record { whole = each.whole; suits = each.suits }

-- an attribute whose pairs were written, and whose value was tried
noted : (t : ℕ) (c : attempt_value-After-attempt_annotated t) → c.attempt_counted_pairs-in-Attr.result ≡ true →
    Attempt c.args.version c.args.limits.now c.args.deeper (datum_of c.args.value.now) c.args.out.now
    c.attempt_annotated.new.out c.attempt_annotated.result ×
    OnTrue c.attempt_annotated.result (HasNoPush (datum_of c.args.value.now))
noted t c e =
    let pairs = c.list-pairs.result.now in
    let x = datum_of c.deref.result.now in
    let front = in_turn (map pair_data pairs) in
    let whole = data_of_list-push front x in
    let notes = subst (λ done. AttemptInside c.args.version c.args.limits.now c.args.deeper d.Attr (length pairs)
    (data_of_list front) c.args.out.now
    c.attempt_counted_pairs-in-Attr.new.out done) e c.attempt_counted_pairs-in-Attr.ensures in
    let tried = annotated_tried c.args.version c.args.limits.now c.args.deeper (data_of_list front) x (length pairs)
    c.attempt_annotated.result notes
    (ap (λ xs. count xs / 2) (sym whole) ∙ count-annotated pair_data pairs x)
    (subst (λ xs. IsWhole d.Attr (count xs)) whole (annotated_is_whole (map pair_data pairs) x))
    c.attempt_annotated.ensures.attempt
    c.attempt_annotated.ensures.no_push in
    let same = ap (aggregate d.Attr) (sym whole) ∙ attr_data c.list-pairs.ensures c.deref.ensures ∙
    sym (ap datum_of c.in-Attr.is ∙ datum_of-Attr c.in-Attr.pairs c.in-Attr.annotated) in (
      subst (λ y. Attempt c.args.version c.args.limits.now c.args.deeper y c.args.out.now c.attempt_annotated.new.out
          c.attempt_annotated.result) same tried,
      subst (λ y. OnTrue c.attempt_annotated.result (HasNoPush y)) same
          (is_below c.args.version c.args.limits.now c.args.deeper d.Attr (extended (data_of_list front) x)
          c.attempt_annotated.result tt tried.suits),
    )

pub attempt_value-returns-else-not-attempt_counted_pairs-clause-attempt :
    goal.attempt_value-returns-else-not-attempt_counted_pairs-clause-attempt
attempt_value-returns-else-not-attempt_counted_pairs-clause-attempt t c =
    (noted t c c.if-not-attempt_counted_pairs.false).0

pub attempt_value-returns-else-not-attempt_counted_pairs-clause-no_push :
    goal.attempt_value-returns-else-not-attempt_counted_pairs-clause-no_push
attempt_value-returns-else-not-attempt_counted_pairs-clause-no_push t c =
    (noted t c c.if-not-attempt_counted_pairs.false).1

pub attempt_pairs-loop-pair-preserved : goal.attempt_pairs-loop-pair-preserved
attempt_pairs-loop-pair-preserved t c =
    let front = data_of_list (in_turn (map pair_data (take c.loop-pair.pair-index c.args.pairs.now))) in
    let key = datum_of c.pair-item.result.0 in
    let one_more = pairs-taken pair_data c.args.pairs.now c.loop-pair.pair-index c.pair-item.result c.loop-pair-test.true c.pair-item.is in
    let first = one_more_tried c.args.version c.args.limits.now c.args.deeper front key true c.loop-pair.invariant.whole
    c.loop-pair.invariant.suits
    c.if-not-attempt_value.ensures.attempt c.if-not-attempt_value.ensures.no_push in
    let second = one_more_tried c.args.version c.args.limits.now c.args.deeper (extended front key)
    (datum_of c.pair-item.result.1) true first.whole first.suits
    c.if-not-attempt_value-2.ensures.attempt c.if-not-attempt_value-2.ensures.no_push in
    let each = subst (λ xs. AttemptEach c.args.version c.args.limits.now c.args.deeper xs c.args.out.now
    c.attempt_value-in-loop-pair.new.out true)
    (sym one_more) second in
    record { whole = each.whole; suits = each.suits }
