use Rattle.std.proofs.Common.{◌++◌, [], length, map, take, refl, sym, ap, ◌∙◌, subst, arith}
use Rattle.std.proofs.lemmas.List.{take_all}
use Rattle.resp_value.specs.Data.{data_of_list, in_turn}
use Rattle.resp_value.specs.Data as d
use Rattle.resp_value.specs.Trees.{texts}
use Rattle.resp_value.specs.Canonical.{canonical_text, canonical_trees}
use Rattle.resp_value.specs.Values.{datum_of, pair_data, extended}
use Rattle.resp_encode.specs.Walks.Writings.{Fills}
use Rattle.resp_encode.proofs.Extended.{texts-extended}
use Rattle.resp_encode.proofs.SoFar.{data-take_more, pairs-taken, text_room, pair_room}
use Rattle.resp_encode.proofs.Texts.{Writes-none, Writes-append, head_split, length-head}
use Rattle.resp_encode.proofs.ValueTexts.{length_of_group, length_of-Map, length_of-Attr, pair_texts, group_written, text_of-Map, text_of-Attr}
use Rattle.resp_encode.proofs.text.+write.Goals as goal

pub write_members-loop-member-init : goal.write_members-loop-member-init
write_members-loop-member-init t c = Writes-none c.args.out.now

pub write_members-write_value-requires : goal.write_members-write_value-requires
write_members-write_value-requires t c =
    let room = text_room c.args.version datum_of c.args.members.now c.loop-member.member-index c.member-item.result c.loop-member-test.true in
    let item = ap (λ x. length (canonical_text c.args.version (datum_of x))) c.member-item.is in (
      omega (arith, room, item, c.loop-member.invariant.spare, c.requires),
      omega (arith, room, item, c.loop-member.invariant.spare, c.requires),
    )

pub write_members-loop-member-preserved : goal.write_members-loop-member-preserved
write_members-loop-member-preserved t c =
    let i = c.loop-member.member-index in
    let front = data_of_list (map datum_of (take i c.args.members.now)) in
    let one_more = data-take_more datum_of c.args.members.now i c.member-item.result c.loop-member-test.true in
    subst (Fills c.args.out.now c.write_value.new.out)
    (ap (λ x. texts (canonical_trees c.args.version front) ++ canonical_text c.args.version (datum_of x))
    c.member-item.is
    ∙ sym (ap (λ xs. texts (canonical_trees c.args.version xs)) one_more ∙ texts-extended c.args.version front _))
    (Writes-append c.loop-member.invariant c.write_value.ensures)

pub write_members-returns : goal.write_members-returns
write_members-returns t c =
    subst (λ xs. Fills c.args.out.now c.loop-member.out
    (texts (canonical_trees c.args.version (data_of_list (map datum_of xs)))))
    (take_all c.loop-member.member-index c.args.members.now c.loop-member-test.false) c.loop-member.invariant

pub write_pairs-loop-pair-init : goal.write_pairs-loop-pair-init
write_pairs-loop-pair-init t c = Writes-none c.args.out.now

pub write_pairs-write_value-requires : goal.write_pairs-write_value-requires
write_pairs-write_value-requires t c =
    let room = pair_room c.args.version pair_data c.args.pairs.now c.loop-pair.pair-index c.pair-item.result c.loop-pair-test.true in
    let item = ap (λ x. length (canonical_text c.args.version (datum_of x.0))) c.pair-item.is in (
      omega (arith, room, item, c.loop-pair.invariant.spare, c.requires),
      omega (arith, room, item, c.loop-pair.invariant.spare, c.requires),
    )

pub write_pairs-write_value-requires-in-loop-pair : goal.write_pairs-write_value-requires-in-loop-pair
write_pairs-write_value-requires-in-loop-pair t c =
    let i = c.loop-pair.pair-index in
    let room = pair_room c.args.version pair_data c.args.pairs.now i c.pair-item.result c.loop-pair-test.true in
    let key = ap (λ x. length (canonical_text c.args.version (datum_of x.0))) c.pair-item.is in
    let item = ap (λ x. length (canonical_text c.args.version (datum_of x.1))) c.pair-item.is in (
      omega (arith, room, key, item, c.loop-pair.invariant.spare, c.write_value.ensures.spare, c.requires),
      omega (arith, room, key, item, c.loop-pair.invariant.spare, c.write_value.ensures.spare, c.requires),
    )

pub write_pairs-loop-pair-preserved : goal.write_pairs-loop-pair-preserved
write_pairs-loop-pair-preserved t c =
    let front = data_of_list (in_turn (map pair_data (take c.loop-pair.pair-index c.args.pairs.now))) in
    let pair = pair_data c.pair-item.result in
    let one_more = pairs-taken pair_data c.args.pairs.now c.loop-pair.pair-index c.pair-item.result c.loop-pair-test.true c.pair-item.is in
    subst (Fills c.args.out.now c.write_value-in-loop-pair.new.out)
    (sym (ap (λ xs. texts (canonical_trees c.args.version xs)) one_more
    ∙ texts-extended c.args.version (extended front pair.0) pair.1
    ∙ ap (λ xs. xs ++ canonical_text c.args.version pair.1) (texts-extended c.args.version front pair.0)))
    (Writes-append (Writes-append c.loop-pair.invariant c.write_value.ensures) c.write_value-in-loop-pair.ensures)

pub write_pairs-returns : goal.write_pairs-returns
write_pairs-returns t c =
    subst (λ xs. Fills c.args.out.now c.loop-pair.out
    (texts (canonical_trees c.args.version (data_of_list (in_turn (map pair_data xs))))))
    (take_all c.loop-pair.pair-index c.args.pairs.now c.loop-pair-test.false) c.loop-pair.invariant

pub write_value-write_group-requires : goal.write_value-write_group-requires
write_value-write_group-requires t c =
    omega (arith, c.requires, length_of_group c.args.version d.Array _ c.in-Array.members _ c.list-in-Array.ensures c.in-Array.is)

pub write_value-write_group-requires-in-Set : goal.write_value-write_group-requires-in-Set
write_value-write_group-requires-in-Set t c =
    omega (arith, c.requires, length_of_group c.args.version d.Set _ c.in-Set.members _ c.list-in-Set.ensures c.in-Set.is)

pub write_value-write_group-requires-in-Push : goal.write_value-write_group-requires-in-Push
write_value-write_group-requires-in-Push t c =
    omega (arith, c.requires, length_of_group c.args.version d.Push _ c.in-Push.members _ c.list-in-Push.ensures c.in-Push.is)

pub write_value-write_head-requires : goal.write_value-write_head-requires
write_value-write_head-requires t c = omega (
  arith,
  c.requires,
  length_of-Map c.args.version c.args.value.now c.in-Map.pairs c.list-pairs.result.now c.list-pairs.ensures c.in-Map.is,
)

pub write_value-write_pairs-requires : goal.write_value-write_pairs-requires
write_value-write_pairs-requires t c = omega (
  arith,
  c.requires,
  c.write_head.ensures.spare,
  length-head 37 (length c.list-pairs.result.now) [],
  length_of-Map c.args.version c.args.value.now c.in-Map.pairs c.list-pairs.result.now c.list-pairs.ensures c.in-Map.is,
)

pub write_value-write_head-requires-in-Attr : goal.write_value-write_head-requires-in-Attr
write_value-write_head-requires-in-Attr t c =
    let ps = c.list-pairs-in-Attr.result.now in
    let whole = length_of-Attr c.args.version c.args.value.now c.in-Attr.pairs c.in-Attr.annotated ps c.in-Attr.annotated.value
    c.list-pairs-in-Attr.ensures refl c.in-Attr.is in
    omega (arith, c.requires, whole)

pub write_value-write_pairs-requires-in-Attr : goal.write_value-write_pairs-requires-in-Attr
write_value-write_pairs-requires-in-Attr t c =
    let ps = c.list-pairs-in-Attr.result.now in
    let whole = length_of-Attr c.args.version c.args.value.now c.in-Attr.pairs c.in-Attr.annotated ps c.in-Attr.annotated.value
    c.list-pairs-in-Attr.ensures refl c.in-Attr.is in
    omega (arith, c.requires, c.write_head-in-Attr.ensures.spare, length-head 124 (length ps) [], whole)

pub write_value-write_annotated-requires : goal.write_value-write_annotated-requires
write_value-write_annotated-requires t c =
    let ps = c.list-pairs-in-Attr.result.now in
    let whole = length_of-Attr c.args.version c.args.value.now c.in-Attr.pairs c.in-Attr.annotated ps c.deref.result.now
    c.list-pairs-in-Attr.ensures c.deref.ensures c.in-Attr.is in
    omega (arith, c.requires, c.write_head-in-Attr.ensures.spare, c.write_pairs-in-Attr.ensures.spare, length-head 124 (length ps) [], whole)

pub write_value-returns-in-Array : goal.write_value-returns-in-Array
write_value-returns-in-Array t c =
    group_written c.args.version d.Array c.args.value.now c.in-Array.members c.list-in-Array.ensures c.in-Array.is c.write_group.ensures

pub write_value-returns-in-Set : goal.write_value-returns-in-Set
write_value-returns-in-Set t c =
    group_written c.args.version d.Set c.args.value.now c.in-Set.members c.list-in-Set.ensures c.in-Set.is c.write_group-in-Set.ensures

pub write_value-returns-in-Push : goal.write_value-returns-in-Push
write_value-returns-in-Push t c =
    group_written c.args.version d.Push c.args.value.now c.in-Push.members c.list-in-Push.ensures c.in-Push.is c.write_group-in-Push.ensures

pub write_value-returns-in-Map : goal.write_value-returns-in-Map
write_value-returns-in-Map t c =
    let ps = c.list-pairs.result.now in
    subst (Fills c.args.out.now c.write_pairs.new.out)
    (head_split 37 (length ps) (pair_texts c.args.version ps) ∙ sym
    (text_of-Map c.args.version c.args.value.now c.in-Map.pairs ps c.list-pairs.ensures c.in-Map.is))
    (Writes-append c.write_head.ensures c.write_pairs.ensures)

pub write_value-returns-in-Attr : goal.write_value-returns-in-Attr
write_value-returns-in-Attr t c =
    let ps = c.list-pairs-in-Attr.result.now in
    let under = canonical_text c.args.version (datum_of c.deref.result.now) in
    subst (Fills c.args.out.now c.write_annotated.new.out)
    (head_split 124 (length ps) (pair_texts c.args.version ps ++ under) ∙
    sym (text_of-Attr c.args.version c.args.value.now c.in-Attr.pairs c.in-Attr.annotated ps c.deref.result.now
    c.list-pairs-in-Attr.ensures c.deref.ensures
    c.in-Attr.is))
    (Writes-append c.write_head-in-Attr.ensures (Writes-append c.write_pairs-in-Attr.ensures c.write_annotated.ensures))
