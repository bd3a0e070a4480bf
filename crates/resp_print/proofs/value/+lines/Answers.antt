use Rattle.std.proofs.Common.{◌+◌, ◌++◌, ◌∷◌, [], Err, suc, length, map, drop, codes, refl, sym, ap, subst, ◌∙◌, add-one, arith}
use Rattle.std.proofs.lemmas.List.{drop_all}
use Rattle.resp_value.proofs.DatumOf.{datum_of-Array, datum_of-Set, datum_of-Push, datum_of-Map}
use Rattle.resp_value.specs.Data.{aggregate, data_of_list, depth, greatest_depth, in_turn, none}
use Rattle.resp_value.specs.Data as d
use Rattle.resp_value.specs.Values.{datum_of, pair_data}
use Rattle.resp_print.specs.Kept.{MembersFor, ValueFor}
use Rattle.resp_print.specs.Printed.{annotating_front, end_line, first_line, group_lines}
use Rattle.resp_print.specs.Shown.{lines_within, member_lines_within}
use Rattle.resp_print.proofs.Kept.{next_for, none_for, when_ok}
use Rattle.resp_print.proofs.Lines.{attribute_for, attribute_is, greatest_depth-front, greatest_depth-last, group_printed, map_printed, next_depth, next_member, next_pair, next_pair_depth}
use Rattle.resp_print.proofs.Printing.{first_fails, is_that_error, last_printed, printed_all, printed_as, printed_more, prints_as, prints_on, second_fails}
use Rattle.resp_print.proofs.Leaves.{has_no_members}
use Rattle.resp_print.proofs.value.+lines.Goals as goal

pub write_members-returns-in_err-write_lines : goal.write_members-returns-in_err-write_lines
write_members-returns-in_err-write_lines g t c = λ xs rest for.
    let most = c.args.most in
    let level = c.args.level in
    let i = c.loop-member.member-index in
    let x = c.member-item.result in
    let whole = member_lines_within most level xs in
    let (ys, kept, printed) = c.loop-member.invariant.printed xs rest for in
    let next = next_member most _ c.args.members.now i x ys rest c.loop-member-test.true c.member-item.is kept in
    let depths = next_depth c.args.members.now i x c.loop-member-test.true c.member-item.is in rw (is_that_error c.from_residual.result _ c.from_residual.ensures.1) (
      prints_as (Err c.in_err-write_lines.field-0.0) _ _ _ _ whole whole (level + depth (datum_of x)) (level + greatest_depth (data_of_list (map datum_of c.args.members.now))) refl
          (omega (arith, depths.0, c.loop-member.invariant.depth))
          (prints_on c.in_err-write_lines.field-0.0 whole (lines_within most level next.first) (member_lines_within most level next.others) _ _ _ _ _ _ _
          (printed_as whole _ _ _ _ _ _ (ap (member_lines_within most level) next.whole) printed) (c.in_err-write_lines.ensures next.first next.between next.first_for).0),
      tt,
    )

pub write_members-loop-member-preserved : goal.write_members-loop-member-preserved
write_members-loop-member-preserved g t c =
    let most = c.args.most in
    let level = c.args.level in
    let i = c.loop-member.member-index in
    let x = c.member-item.result in
    let depths = next_depth c.args.members.now i x c.loop-member-test.true c.member-item.is in
    record {
      printed = λ xs rest for.
          let whole = member_lines_within most level xs in
          let (ys, kept, printed) = c.loop-member.invariant.printed xs rest for in
          let next = next_member most _ c.args.members.now i x ys rest c.loop-member-test.true c.member-item.is kept in
          let written = c.in_ok-write_lines.ensures next.first next.between next.first_for in (
            next.others,
            subst (λ ns. MembersFor most ns (data_of_list (map datum_of (drop (i + 1) c.args.members.now))) next.others rest) (sym written.1) next.others_for,
            printed_more whole (lines_within most level next.first) (member_lines_within most level next.others) _ _ _ _ _ _
                (printed_as whole _ _ _ _ _ _ (ap (member_lines_within most level) next.whole) printed) written.0,
          );
      depth = omega (arith, depths.1, c.loop-member.invariant.depth);
    }

pub write_members-returns : goal.write_members-returns
write_members-returns g t c = λ xs rest for.
    let most = c.args.most in
    let level = c.args.level in
    let (ys, kept, printed) = c.loop-member.invariant.printed xs rest for in
    let end = drop_all c.loop-member.member-index c.args.members.now c.loop-member-test.false in
    let lengths = c.loop-member.lengths.now in
    let left = none_for most lengths ys rest (subst (λ ms. MembersFor most lengths (data_of_list (map datum_of ms)) ys rest) end kept) in (
      printed_all (member_lines_within most level xs) _ _ _ _ (printed_as _ _ _ _ _ _ _ (ap (member_lines_within most level) left.0) printed),
      left.1,
    )

pub write_pairs-returns-in_err-write_lines : goal.write_pairs-returns-in_err-write_lines
write_pairs-returns-in_err-write_lines g t c = λ xs rest for.
    let most = c.args.most in
    let level = c.args.level in
    let i = c.loop-pair.pair-index in
    let x = c.pair-item.result in
    let whole = member_lines_within most level xs in
    let (ys, kept, printed) = c.loop-pair.invariant.printed xs rest for in
    let next = next_pair most _ c.args.pairs.now i x ys rest c.loop-pair-test.true c.pair-item.is kept in
    let (first, second, others) = next_pair_depth c.args.pairs.now i x c.loop-pair-test.true c.pair-item.is in rw (is_that_error c.from_residual.result _ c.from_residual.ensures.1) (
      prints_as (Err c.in_err-write_lines.field-0.0) _ _ _ _ whole whole (level + depth (datum_of x.0)) (level + greatest_depth (data_of_list (in_turn (map pair_data c.args.pairs.now)))) refl
          (omega (arith, first, c.loop-pair.invariant.depth))
          (prints_on c.in_err-write_lines.field-0.0 whole (lines_within most level next.first) (member_lines_within most level next.others) _ _ _ _ _ _ _
          (printed_as whole _ _ _ _ _ _ (ap (member_lines_within most level) next.whole) printed) (c.in_err-write_lines.ensures next.first next.between next.first_for).0),
      tt,
    )

pub write_pairs-returns-in_err-write_lines-2 : goal.write_pairs-returns-in_err-write_lines-2
write_pairs-returns-in_err-write_lines-2 g t c = λ xs rest for.
    let most = c.args.most in
    let level = c.args.level in
    let i = c.loop-pair.pair-index in
    let x = c.pair-item.result in
    let whole = member_lines_within most level xs in
    let (ys, kept, printed) = c.loop-pair.invariant.printed xs rest for in
    let next = next_pair most _ c.args.pairs.now i x ys rest c.loop-pair-test.true c.pair-item.is kept in
    let (first, second, others) = next_pair_depth c.args.pairs.now i x c.loop-pair-test.true c.pair-item.is in
    let written = c.in_ok-write_lines.ensures next.first next.between next.first_for in
    let rest_data = data_of_list (in_turn (map pair_data (drop (i + 1) c.args.pairs.now))) in
    let value = next_for most _ (datum_of x.1) rest_data next.others rest
    (subst (λ ns. MembersFor most ns (d.more (datum_of x.1) rest_data) next.others rest) (sym written.1) next.others_for) in rw (is_that_error c.from_residual-in_err-write_lines-2.result _ c.from_residual-in_err-write_lines-2.ensures.1) (
      prints_as (Err c.in_err-write_lines-2.field-0.0) _ _ _ _ whole whole (level + depth (datum_of x.1)) (level + greatest_depth (data_of_list (in_turn (map pair_data c.args.pairs.now)))) refl
          (omega (arith, second, c.loop-pair.invariant.depth))
          (prints_on c.in_err-write_lines-2.field-0.0 whole (lines_within most level value.first) (member_lines_within most level value.others) _ _ _ _ _ _ _
          (printed_as whole _ _ _ _ _ _ (ap (member_lines_within most level) value.whole)
          (printed_more whole (lines_within most level next.first) (member_lines_within most level next.others) _ _ _ _ _ _
          (printed_as whole _ _ _ _ _ _ (ap (member_lines_within most level) next.whole) printed) written.0))
          (c.in_err-write_lines-2.ensures value.first value.between value.first_for).0),
      tt,
    )

pub write_pairs-loop-pair-preserved : goal.write_pairs-loop-pair-preserved
write_pairs-loop-pair-preserved g t c =
    let most = c.args.most in
    let level = c.args.level in
    let i = c.loop-pair.pair-index in
    let x = c.pair-item.result in
    let (first, second, others) = next_pair_depth c.args.pairs.now i x c.loop-pair-test.true c.pair-item.is in
    let rest_data = data_of_list (in_turn (map pair_data (drop (i + 1) c.args.pairs.now))) in
    record {
      printed = λ xs rest for.
          let whole = member_lines_within most level xs in
          let (ys, kept, printed) = c.loop-pair.invariant.printed xs rest for in
          let next = next_pair most _ c.args.pairs.now i x ys rest c.loop-pair-test.true c.pair-item.is kept in
          let written = c.in_ok-write_lines.ensures next.first next.between next.first_for in
          let value = next_for most _ (datum_of x.1) rest_data next.others rest
          (subst (λ ns. MembersFor most ns (d.more (datum_of x.1) rest_data) next.others rest) (sym written.1) next.others_for) in
          let second_written = c.in_ok-write_lines-2.ensures value.first value.between value.first_for in (
            value.others,
            subst (λ ns. MembersFor most ns rest_data value.others rest) (sym second_written.1) value.others_for,
            printed_more whole (lines_within most level value.first) (member_lines_within most level value.others) _ _ _ _ _ _
                (printed_as whole _ _ _ _ _ _ (ap (member_lines_within most level) value.whole)
                (printed_more whole (lines_within most level next.first) (member_lines_within most level next.others) _ _ _ _ _ _
                (printed_as whole _ _ _ _ _ _ (ap (member_lines_within most level) next.whole) printed) written.0)) second_written.0,
          );
      depth = omega (arith, others, c.loop-pair.invariant.depth);
    }

pub write_pairs-returns : goal.write_pairs-returns
write_pairs-returns g t c = λ xs rest for.
    let most = c.args.most in
    let level = c.args.level in
    let (ys, kept, printed) = c.loop-pair.invariant.printed xs rest for in
    let end = drop_all c.loop-pair.pair-index c.args.pairs.now c.loop-pair-test.false in
    let lengths = c.loop-pair.lengths.now in
    let left = none_for most lengths ys rest (subst (λ ps. MembersFor most lengths (data_of_list (in_turn (map pair_data ps))) ys rest) end kept) in (
      printed_all (member_lines_within most level xs) _ _ _ _ (printed_as _ _ _ _ _ _ _ (ap (member_lines_within most level) left.0) printed),
      left.1,
    )

pub write_group-returns-in_err-write_first_line : goal.write_group-returns-in_err-write_first_line
write_group-returns-in_err-write_first_line g t c = λ xs rest for.
    let level = c.args.level in rw (is_that_error c.from_residual.result _ c.from_residual.ensures.1) (
      first_fails c.in_err-write_first_line.field-0.0 _ _ _ _ (first_line level c.args.words.now) (member_lines_within c.args.most (suc level) xs ++ end_line level (length c.args.members.now)) _ 0 _ refl
          (omega arith) c.in_err-write_first_line.ensures,
      tt,
    )

pub write_group-returns-in_err-write_members : goal.write_group-returns-in_err-write_members
write_group-returns-in_err-write_members g t c = λ xs rest for.
    let level = c.args.level in
    let ys = data_of_list (map datum_of c.args.members.now) in
    let n = length c.args.members.now in
    let deeper = c.in-Some.ensures.1 in rw (is_that_error c.from_residual-in_err-write_members.result _ c.from_residual-in_err-write_members.ensures.1) (
      second_fails c.in_err-write_members.field-0.0 _ _ _ _ _ _ (first_line level c.args.words.now) (member_lines_within c.args.most c.in-Some.deeper xs) (end_line level n)
          (group_lines level c.args.words.now (member_lines_within c.args.most (suc level) xs) n) (c.in-Some.deeper + greatest_depth ys) (level + (greatest_depth ys + 1))
          (ap (λ m. group_lines level c.args.words.now (member_lines_within c.args.most m xs) n) (deeper ∙ add-one level)) (omega (arith, deeper))
          c.in_ok-write_first_line.ensures (c.in_err-write_members.ensures xs rest for).0,
      tt,
    )

pub write_group-returns : goal.write_group-returns
write_group-returns g t c = λ xs rest for.
    let level = c.args.level in
    let ys = data_of_list (map datum_of c.args.members.now) in
    let n = length c.args.members.now in
    let written = c.in_ok-write_members.ensures xs rest for in (
      last_printed c.write_end_line.result _ _ _ _ _ _ _ _ (first_line level c.args.words.now) (member_lines_within c.args.most c.in-Some.deeper xs) (end_line level n)
          (group_lines level c.args.words.now (member_lines_within c.args.most (suc level) xs) n) 0 (level + (greatest_depth ys + 1))
          (ap (λ m. group_lines level c.args.words.now (member_lines_within c.args.most m xs) n) (c.in-Some.ensures.1 ∙ add-one level)) (omega arith)
          c.in_ok-write_first_line.ensures written.0 c.write_end_line.ensures,
      when_ok c.write_end_line.result _ written.1,
    )

pub write_map-returns-in_err-write_first_line : goal.write_map-returns-in_err-write_first_line
write_map-returns-in_err-write_first_line g t c = λ xs rest for.
    let level = c.args.level in rw (is_that_error c.from_residual.result _ c.from_residual.ensures.1) (
      first_fails c.in_err-write_first_line.field-0.0 _ _ _ _ (first_line level (codes "map\n")) (member_lines_within c.args.most (suc level) xs ++ end_line level (length c.args.pairs.now)) _ 0 _ refl
          (omega arith) c.in_err-write_first_line.ensures,
      tt,
    )

pub write_map-returns-in_err-write_pairs : goal.write_map-returns-in_err-write_pairs
write_map-returns-in_err-write_pairs g t c = λ xs rest for.
    let level = c.args.level in
    let ys = data_of_list (in_turn (map pair_data c.args.pairs.now)) in
    let n = length c.args.pairs.now in
    let deeper = c.in-Some.ensures.1 in rw (is_that_error c.from_residual-in_err-write_pairs.result _ c.from_residual-in_err-write_pairs.ensures.1) (
      second_fails c.in_err-write_pairs.field-0.0 _ _ _ _ _ _ (first_line level (codes "map\n")) (member_lines_within c.args.most c.in-Some.deeper xs) (end_line level n)
          (group_lines level (codes "map\n") (member_lines_within c.args.most (suc level) xs) n) (c.in-Some.deeper + greatest_depth ys) (level + (greatest_depth ys + 1))
          (ap (λ m. group_lines level (codes "map\n") (member_lines_within c.args.most m xs) n) (deeper ∙ add-one level)) (omega (arith, deeper))
          c.in_ok-write_first_line.ensures (c.in_err-write_pairs.ensures xs rest for).0,
      tt,
    )

pub write_map-returns : goal.write_map-returns
write_map-returns g t c = λ xs rest for.
    let level = c.args.level in
    let ys = data_of_list (in_turn (map pair_data c.args.pairs.now)) in
    let n = length c.args.pairs.now in
    let written = c.in_ok-write_pairs.ensures xs rest for in (
      last_printed c.write_end_line.result _ _ _ _ _ _ _ _ (first_line level (codes "map\n")) (member_lines_within c.args.most c.in-Some.deeper xs) (end_line level n)
          (group_lines level (codes "map\n") (member_lines_within c.args.most (suc level) xs) n) 0 (level + (greatest_depth ys + 1))
          (ap (λ m. group_lines level (codes "map\n") (member_lines_within c.args.most m xs) n) (c.in-Some.ensures.1 ∙ add-one level)) (omega arith)
          c.in_ok-write_first_line.ensures written.0 c.write_end_line.ensures,
      when_ok c.write_end_line.result _ written.1,
    )

pub write_annotating-returns-in_err-write_first_line : goal.write_annotating-returns-in_err-write_first_line
write_annotating-returns-in_err-write_first_line g t c = λ xs rest for.
    let level = c.args.level in rw (is_that_error c.from_residual.result _ c.from_residual.ensures.1) (
      first_fails c.in_err-write_first_line.field-0.0 _ _ _ _ (first_line level (codes "attr\n")) (member_lines_within c.args.most c.args.deeper xs ++ first_line level (codes "of\n")) _ 0 _ refl
          (omega arith) c.in_err-write_first_line.ensures,
      tt,
    )

pub write_annotating-returns-in_err-write_pairs : goal.write_annotating-returns-in_err-write_pairs
write_annotating-returns-in_err-write_pairs g t c = λ xs rest for.
    let level = c.args.level in
    let ys = data_of_list (in_turn (map pair_data c.args.pairs.now)) in rw (is_that_error c.from_residual-in_err-write_pairs.result _ c.from_residual-in_err-write_pairs.ensures.1) (
      second_fails c.in_err-write_pairs.field-0.0 _ _ _ _ _ _ (first_line level (codes "attr\n")) (member_lines_within c.args.most c.args.deeper xs) (first_line level (codes "of\n"))
          _ (c.args.deeper + greatest_depth ys) (c.args.deeper + greatest_depth ys) refl (omega arith)
          c.in_ok-write_first_line.ensures (c.in_err-write_pairs.ensures xs rest for).0,
      tt,
    )

pub write_annotating-returns : goal.write_annotating-returns
write_annotating-returns g t c = λ xs rest for.
    let level = c.args.level in
    let ys = data_of_list (in_turn (map pair_data c.args.pairs.now)) in
    let written = c.in_ok-write_pairs.ensures xs rest for in (
      last_printed c.write_first_line-2.result _ _ _ _ _ _ _ _ (first_line level (codes "attr\n")) (member_lines_within c.args.most c.args.deeper xs) (first_line level (codes "of\n"))
          _ 0 (c.args.deeper + greatest_depth ys) refl (omega arith)
          c.in_ok-write_first_line.ensures written.0 c.write_first_line-2.ensures,
      when_ok c.write_first_line-2.result _ written.1,
    )

pub write_lines-returns-in-Array : goal.write_lines-returns-in-Array
write_lines-returns-in-Array g t c = λ x rest for.
    group_printed c.args.most c.write_group.result _ _ _ _ c.args.level d.Array c.args.value.now c.list.result.now _ x rest _ (λ e. absurd (cc)) (λ n. refl)
    (ap (λ ms. aggregate d.Array (data_of_list (map datum_of ms))) c.list.ensures ∙ sym (ap datum_of c.in-Array.is ∙ datum_of-Array c.in-Array.members)) for
    (λ xs kept. c.write_group.ensures xs rest kept)

pub write_lines-returns-in-Set : goal.write_lines-returns-in-Set
write_lines-returns-in-Set g t c = λ x rest for.
    group_printed c.args.most c.write_group-in-Set.result _ _ _ _ c.args.level d.Set c.args.value.now c.list-in-Set.result.now _ x rest _ (λ e. absurd (cc)) (λ n. refl)
    (ap (λ ms. aggregate d.Set (data_of_list (map datum_of ms))) c.list-in-Set.ensures ∙ sym (ap datum_of c.in-Set.is ∙ datum_of-Set c.in-Set.members)) for
    (λ xs kept. c.write_group-in-Set.ensures xs rest kept)

pub write_lines-returns-in-Push : goal.write_lines-returns-in-Push
write_lines-returns-in-Push g t c = λ x rest for.
    group_printed c.args.most c.write_group-in-Push.result _ _ _ _ c.args.level d.Push c.args.value.now c.list-in-Push.result.now _ x rest _ (λ e. absurd (cc)) (λ n. refl)
    (ap (λ ms. aggregate d.Push (data_of_list (map datum_of ms))) c.list-in-Push.ensures ∙ sym (ap datum_of c.in-Push.is ∙ datum_of-Push c.in-Push.members)) for
    (λ xs kept. c.write_group-in-Push.ensures xs rest kept)

pub write_lines-returns-in-Map : goal.write_lines-returns-in-Map
write_lines-returns-in-Map g t c = λ x rest for.
    map_printed c.args.most c.write_map.result _ _ _ _ c.args.level c.args.value.now c.list-in-Map.result.now _ x rest _
    (ap (λ ps. aggregate d.Map (data_of_list (in_turn (map pair_data ps)))) c.list-in-Map.ensures ∙ sym (ap datum_of c.in-Map.is ∙ datum_of-Map c.in-Map.pairs)) for
    (λ xs kept. c.write_map.ensures xs rest kept)

pub write_lines-returns-in_err-write_annotating-in-Attr : goal.write_lines-returns-in_err-write_annotating-in-Attr
write_lines-returns-in_err-write_annotating-in-Attr g t c = λ x rest for.
    let most = c.args.most in
    let level = c.args.level in
    let ps = in_turn (map pair_data c.list-pairs.result.now) in
    let y = datum_of c.in-Attr.annotated.value in
    let n = length c.list-pairs.result.now in
    let deeper = c.in-Some.ensures.1 in
    let value = attribute_is c.args.value.now c.in-Attr.pairs c.in-Attr.annotated c.list-pairs.result.now c.list-pairs.ensures c.in-Attr.is in
    let a = attribute_for most _ level c.in-Some.deeper c.list-pairs.result.now y c.args.value.now x rest (deeper ∙ add-one level) value for in rw (is_that_error c.from_residual.result _ c.from_residual.ensures.1) (
      first_fails c.in_err-write_annotating-in-Attr.field-0.0 _ _ _ _ (annotating_front level (member_lines_within most c.in-Some.deeper a.front)) (lines_within most c.in-Some.deeper a.last ++ end_line level n)
          (lines_within most level x) (c.in-Some.deeper + greatest_depth (data_of_list ps)) (level + depth (datum_of c.args.value.now)) a.shown
          (omega (arith, ap depth value, deeper, greatest_depth-front ps y)) (c.in_err-write_annotating-in-Attr.ensures a.front a.between a.front_for).0,
      tt,
    )

pub write_lines-returns-in_err-write_lines-in-Attr : goal.write_lines-returns-in_err-write_lines-in-Attr
write_lines-returns-in_err-write_lines-in-Attr g t c = λ x rest for.
    let most = c.args.most in
    let level = c.args.level in
    let ps = in_turn (map pair_data c.list-pairs.result.now) in
    let y = datum_of c.deref.result.now in
    let n = length c.list-pairs.result.now in
    let deeper = c.in-Some.ensures.1 in
    let value = ap (λ z. aggregate d.Attr (data_of_list (ps ++ datum_of z ∷ []))) c.deref.ensures
    ∙ attribute_is c.args.value.now c.in-Attr.pairs c.in-Attr.annotated c.list-pairs.result.now c.list-pairs.ensures c.in-Attr.is in
    let a = attribute_for most _ level c.in-Some.deeper c.list-pairs.result.now y c.args.value.now x rest (deeper ∙ add-one level) value for in
    let front = c.in_ok-write_annotating-in-Attr.ensures a.front a.between a.front_for in
    let last = subst (λ ns. ValueFor most ns y a.last rest) (sym front.1) a.last_for in rw (is_that_error c.from_residual-in_err-write_lines-in-Attr.result _ c.from_residual-in_err-write_lines-in-Attr.ensures.1) (
      second_fails c.in_err-write_lines-in-Attr.field-0.0 _ _ _ _ _ _ (annotating_front level (member_lines_within most c.in-Some.deeper a.front)) (lines_within most c.in-Some.deeper a.last)
          (end_line level n) (lines_within most level x) (c.in-Some.deeper + depth y) (level + depth (datum_of c.args.value.now)) a.shown
          (omega (arith, ap depth value, deeper, greatest_depth-last ps y)) front.0 (c.in_err-write_lines-in-Attr.ensures a.last rest last).0,
      tt,
    )

pub write_lines-returns-in_ok-write_lines-in-Attr : goal.write_lines-returns-in_ok-write_lines-in-Attr
write_lines-returns-in_ok-write_lines-in-Attr g t c = λ x rest for.
    let most = c.args.most in
    let level = c.args.level in
    let ps = in_turn (map pair_data c.list-pairs.result.now) in
    let y = datum_of c.deref.result.now in
    let n = length c.list-pairs.result.now in
    let deeper = c.in-Some.ensures.1 in
    let value = ap (λ z. aggregate d.Attr (data_of_list (ps ++ datum_of z ∷ []))) c.deref.ensures
    ∙ attribute_is c.args.value.now c.in-Attr.pairs c.in-Attr.annotated c.list-pairs.result.now c.list-pairs.ensures c.in-Attr.is in
    let a = attribute_for most _ level c.in-Some.deeper c.list-pairs.result.now y c.args.value.now x rest (deeper ∙ add-one level) value for in
    let front = c.in_ok-write_annotating-in-Attr.ensures a.front a.between a.front_for in
    let last = c.in_ok-write_lines-in-Attr.ensures a.last rest (subst (λ ns. ValueFor most ns y a.last rest) (sym front.1) a.last_for) in (
      last_printed c.write_end_line.result _ _ _ _ _ _ _ _ (annotating_front level (member_lines_within most c.in-Some.deeper a.front)) (lines_within most c.in-Some.deeper a.last)
          (end_line level n) (lines_within most level x) 0 (level + depth (datum_of c.args.value.now)) a.shown (omega arith) front.0 last.0 c.write_end_line.ensures,
      when_ok c.write_end_line.result _ last.1,
    )

pub write_lines-returns-in_default : goal.write_lines-returns-in_default
write_lines-returns-in_default g t c =
    let other = c.in_default in
    c.write_leaf.ensures (has_no_members c.args.value.now other.not-Array other.not-Set other.not-Map other.not-Attr other.not-Push)
