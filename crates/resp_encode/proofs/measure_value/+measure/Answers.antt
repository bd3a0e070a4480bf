use Rattle.std.proofs.Common.{◌++◌, ◌∷◌, [], map, take, sym, ap, ◌∙◌, subst}
use Rattle.std.proofs.lemmas.List.{take_all}
use Rattle.resp_value.specs.Data.{data_of_list, in_turn, aggregate}
use Rattle.resp_value.specs.Data as d
use Rattle.resp_value.specs.Canonical.{IsValue, AreValues}
use Rattle.resp_value.specs.Values.{datum_of, pair_data, is_negative, extended}
use Rattle.resp_value.proofs.DatumOf.{datum_of-Array, datum_of-Set, datum_of-Push, datum_of-Map, datum_of-Attr, in_turn_is_whole, annotated_is_whole, are_values_with}
use Rattle.resp_encode.specs.Walks.Measures.{Describes, DescribesEach}
use Rattle.resp_encode.proofs.Counts.{count-map, count-in_turn, count-annotated}
use Rattle.resp_encode.proofs.Extended.{data_of_list-push, values_with}
use Rattle.resp_encode.proofs.Parts.{map_data, attr_data}
use Rattle.resp_encode.proofs.SoFar.{data-take_more, pairs-taken}
use Rattle.resp_encode.proofs.measure_value.+measure.Goals as goal

pub measure_value-returns-in-Bool-clause-found : goal.measure_value-returns-in-Bool-clause-found
measure_value-returns-in-Bool-clause-found t c = rw c.in-Bool.is (c.measure_bool.ensures c.args.version)

pub measure_value-returns-in-Int-clause-found : goal.measure_value-returns-in-Int-clause-found
measure_value-returns-in-Int-clause-found t c = rw c.in-Int.is (c.measure_int.ensures.found c.args.version)

pub measure_value-returns-in-Simple-clause-found : goal.measure_value-returns-in-Simple-clause-found
measure_value-returns-in-Simple-clause-found t c =
    rw (c.in-Simple.is, ← c.text.ensures.text) (c.measure_line.ensures.simple c.args.version)

pub measure_value-returns-in-Error-clause-found : goal.measure_value-returns-in-Error-clause-found
measure_value-returns-in-Error-clause-found t c =
    rw (c.in-Error.is, ← c.text-in-Error.ensures.text) (c.measure_line-in-Error.ensures.error c.args.version)

pub measure_value-returns-in-Double-clause-found : goal.measure_value-returns-in-Double-clause-found
measure_value-returns-in-Double-clause-found t c =
    rw (c.in-Double.is, ← c.text-in-Double.ensures.text) (c.measure_double.ensures.found c.args.version)

pub measure_value-returns-in-Bulk-clause-found : goal.measure_value-returns-in-Bulk-clause-found
measure_value-returns-in-Bulk-clause-found t c =
    rw (c.in-Bulk.is, ← c.list.ensures) (c.measure_bulk.ensures.found c.args.version)

pub measure_value-returns-in-BulkError-clause-found : goal.measure_value-returns-in-BulkError-clause-found
measure_value-returns-in-BulkError-clause-found t c =
    rw (c.in-BulkError.is, ← c.list-in-BulkError.ensures) (c.measure_bulk_error.ensures.found c.args.version)

pub measure_value-returns-in-Verbatim-clause-found : goal.measure_value-returns-in-Verbatim-clause-found
measure_value-returns-in-Verbatim-clause-found t c =
    rw (c.in-Verbatim.is, ← c.list-in-Verbatim.ensures) (c.measure_verbatim.ensures.found c.args.version)

pub measure_value-returns-in-Big-clause-found : goal.measure_value-returns-in-Big-clause-found
measure_value-returns-in-Big-clause-found t c = subst (λ x. Describes c.args.version x c.measure_big.result)
    (ap (λ b. d.scalar (d.Big b c.digits.result.now)) c.is_negative.ensures ∙
    ap (λ s. d.scalar (d.Big (is_negative c.in-Big.digits) s)) c.digits.ensures.digits ∙ sym (ap datum_of c.in-Big.is))
    (c.measure_big.ensures c.args.version)

pub measure_value-returns-in-Array-clause-found : goal.measure_value-returns-in-Array-clause-found
measure_value-returns-in-Array-clause-found t c =
    rw (c.in-Array.is, datum_of-Array c.in-Array.members, ← c.list-in-Array.ensures) c.measure_group.ensures.found

pub measure_value-returns-in-Array-clause-is_value : goal.measure_value-returns-in-Array-clause-is_value
measure_value-returns-in-Array-clause-is_value t c =
    subst IsValue (ap (λ xs. aggregate d.Array (data_of_list (map datum_of xs))) c.list-in-Array.ensures ∙
    sym (ap datum_of c.in-Array.is ∙ datum_of-Array c.in-Array.members)) (tt, c.measure_group.ensures.are_values)

pub measure_value-returns-in-Set-clause-found : goal.measure_value-returns-in-Set-clause-found
measure_value-returns-in-Set-clause-found t c =
    rw (c.in-Set.is, datum_of-Set c.in-Set.members, ← c.list-in-Set.ensures) c.measure_group-in-Set.ensures.found

pub measure_value-returns-in-Set-clause-is_value : goal.measure_value-returns-in-Set-clause-is_value
measure_value-returns-in-Set-clause-is_value t c =
    subst IsValue (ap (λ xs. aggregate d.Set (data_of_list (map datum_of xs))) c.list-in-Set.ensures ∙
    sym (ap datum_of c.in-Set.is ∙ datum_of-Set c.in-Set.members)) (tt, c.measure_group-in-Set.ensures.are_values)

pub measure_value-returns-in-Push-clause-found : goal.measure_value-returns-in-Push-clause-found
measure_value-returns-in-Push-clause-found t c =
    rw (c.in-Push.is, datum_of-Push c.in-Push.members, ← c.list-in-Push.ensures) c.measure_group-in-Push.ensures.found

pub measure_value-returns-in-Push-clause-is_value : goal.measure_value-returns-in-Push-clause-is_value
measure_value-returns-in-Push-clause-is_value t c =
    subst IsValue (ap (λ xs. aggregate d.Push (data_of_list (map datum_of xs))) c.list-in-Push.ensures ∙
    sym (ap datum_of c.in-Push.is ∙ datum_of-Push c.in-Push.members)) (tt, c.measure_group-in-Push.ensures.are_values)

pub measure_value-returns-in-Map-clause-found : goal.measure_value-returns-in-Map-clause-found
measure_value-returns-in-Map-clause-found t c =
    rw (c.in-Map.is, datum_of-Map c.in-Map.pairs, ← c.list-in-Map.ensures) c.measure_map.ensures.found

pub measure_value-returns-in-Map-clause-is_value : goal.measure_value-returns-in-Map-clause-is_value
measure_value-returns-in-Map-clause-is_value t c =
    subst IsValue (map_data c.list-in-Map.ensures ∙ sym (ap datum_of c.in-Map.is ∙ datum_of-Map c.in-Map.pairs))
    c.measure_map.ensures.is_value

pub measure_value-returns-in-Attr-clause-found : goal.measure_value-returns-in-Attr-clause-found
measure_value-returns-in-Attr-clause-found t c = subst (λ x. Describes c.args.version x c.measure_attr.result)
    (attr_data c.list-in-Attr.ensures c.deref.ensures ∙
    sym (ap datum_of c.in-Attr.is ∙ datum_of-Attr c.in-Attr.pairs c.in-Attr.annotated))
    (c.measure_attr.ensures.found (datum_of c.deref.result.now) c.measure_annotated-under.ensures.found)

pub measure_value-returns-in-Attr-clause-is_value : goal.measure_value-returns-in-Attr-clause-is_value
measure_value-returns-in-Attr-clause-is_value t c =
    let pairs = map pair_data c.list-in-Attr.result.now in
    let annotated = datum_of c.deref.result.now in
    subst IsValue (attr_data c.list-in-Attr.ensures c.deref.ensures ∙
    sym (ap datum_of c.in-Attr.is ∙ datum_of-Attr c.in-Attr.pairs c.in-Attr.annotated)) (
      annotated_is_whole pairs annotated,
      are_values_with (in_turn pairs) annotated c.measure_attr.ensures.are_values
          c.measure_annotated-under.ensures.is_value,
    )

pub measure_map-returns-clause-found : goal.measure_map-returns-clause-found
measure_map-returns-clause-found t c =
    let pairs = c.args.pairs.now in
    c.inside.ensures c.args.version (data_of_list (in_turn (map pair_data pairs))) c.measure_pairs.ensures.found
    (sym (count-in_turn pair_data pairs))

pub measure_map-returns-clause-is_value : goal.measure_map-returns-clause-is_value
measure_map-returns-clause-is_value t c = (
  in_turn_is_whole (map pair_data c.args.pairs.now),
  c.measure_pairs.ensures.are_values,
)

pub measure_attr-returns-clause-found : goal.measure_attr-returns-clause-found
measure_attr-returns-clause-found t c = λ x under.
    let pairs = c.args.pairs.now in
    let front = in_turn (map pair_data pairs) in
    let each = subst (λ xs. DescribesEach c.args.version xs c.with-found.result) (sym (data_of_list-push front x))
    (c.with-found.ensures c.args.version (data_of_list front) x c.measure_pairs.ensures.found under) in
    c.inside.ensures c.args.version (data_of_list (front ++ x ∷ [])) each (sym (count-annotated pair_data pairs x))

pub measure_group-returns-clause-found : goal.measure_group-returns-clause-found
measure_group-returns-clause-found t c = c.inside.ensures c.args.version _ c.measure_members.ensures.found
    (sym (count-map datum_of c.args.members.now) ∙
    sym (c.requires _))

pub measure_members-loop-member-init : goal.measure_members-loop-member-init
measure_members-loop-member-init t c = record { found = c.nothing-found.ensures c.args.version; are_values = tt }

pub measure_members-loop-member-preserved : goal.measure_members-loop-member-preserved
measure_members-loop-member-preserved t c =
    let i = c.loop-member.member-index in
    let front = data_of_list (map datum_of (take i c.args.members.now)) in
    let one_more = data-take_more datum_of c.args.members.now i c.member-item.result c.loop-member-test.true in
    let item = ap datum_of c.member-item.is in
    record {
      found = subst (λ xs. DescribesEach c.args.version xs c.with-found.result) (sym one_more)
          (c.with-found.ensures c.args.version front _ c.loop-member.invariant.found
          (subst (λ x. Describes c.args.version x c.measure_value.result) item c.measure_value.ensures.found));
      are_values = subst AreValues (sym one_more)
          (values_with front _ c.loop-member.invariant.are_values
          (subst IsValue item c.measure_value.ensures.is_value));
    }

pub measure_members-returns : goal.measure_members-returns
measure_members-returns t c =
    let whole = ap (λ xs. data_of_list (map datum_of xs))
    (take_all c.loop-member.member-index c.args.members.now c.loop-member-test.false) in
    record {
      found = subst (λ xs. DescribesEach c.args.version xs c.loop-member.found) whole c.loop-member.invariant.found;
      are_values = subst AreValues whole c.loop-member.invariant.are_values;
    }

pub measure_pairs-loop-pair-init : goal.measure_pairs-loop-pair-init
measure_pairs-loop-pair-init t c = record { found = c.nothing-found.ensures c.args.version; are_values = tt }

pub measure_pairs-loop-pair-preserved : goal.measure_pairs-loop-pair-preserved
measure_pairs-loop-pair-preserved t c =
    let front = data_of_list (in_turn (map pair_data (take c.loop-pair.pair-index c.args.pairs.now))) in
    let key = datum_of c.pair-item.result.0 in
    let one_more = pairs-taken pair_data c.args.pairs.now c.loop-pair.pair-index c.pair-item.result c.loop-pair-test.true c.pair-item.is in
    record {
      found = subst (λ xs. DescribesEach c.args.version xs c.with-found-in-loop-pair.result) (sym one_more)
          (c.with-found-in-loop-pair.ensures c.args.version (extended front key) _
          (c.with-found.ensures c.args.version front key c.loop-pair.invariant.found c.measure_value.ensures.found)
          c.measure_value-in-loop-pair.ensures.found);
      are_values = subst AreValues (sym one_more) (values_with (extended front key) _
          (values_with front key c.loop-pair.invariant.are_values c.measure_value.ensures.is_value)
          c.measure_value-in-loop-pair.ensures.is_value);
    }

pub measure_pairs-returns : goal.measure_pairs-returns
measure_pairs-returns t c =
    let whole = ap (λ xs. data_of_list (in_turn (map pair_data xs)))
    (take_all c.loop-pair.pair-index c.args.pairs.now c.loop-pair-test.false) in
    record {
      found = subst (λ xs. DescribesEach c.args.version xs c.loop-pair.found) whole c.loop-pair.invariant.found;
      are_values = subst AreValues whole c.loop-pair.invariant.are_values;
    }
