use Rattle.std.proofs.Common.{◌+◌, ◌++◌, [], map, drop, codes, refl, sym, ap, subst, ◌∙◌}
use Rattle.resp_value.proofs.DatumOf.{datum_of-Array, datum_of-Set, datum_of-Push, datum_of-Map}
use Rattle.resp_value.specs.Data.{data_of_list, in_turn}
use Rattle.resp_value.specs.Data as d
use Rattle.resp_value.specs.Values.{datum_of, pair_data}
use Rattle.resp_print.specs.Written.{WritesText}
use Rattle.resp_json.specs.Json.{close_bracket, in_brackets, is_object, json_of, members_json, pairs_json}
use Rattle.resp_json.proofs.Members.{attribute_front, attribute_json, bracketed_text, next_member, next_pair_as}
use Rattle.resp_print.proofs.Printing.{printed_as, printed_more, write_failed}
use Rattle.resp_print.proofs.WrittenLemmas.{writes_next, writes_part}
use Rattle.resp_json.proofs.value.+json.Goals as goal

pub write_each_member-returns-in_err-write_member : goal.write_each_member-returns-in_err-write_member
write_each_member-returns-in_err-write_member g t c =
    let i = c.loop-member.member-index in
    let x = c.member-item.result in
    let whole = members_json [] (data_of_list (map datum_of c.args.members.now)) in
    let separator = c.loop-member.separator.now in
    write_failed c.from_residual.result whole (separator ++ json_of (datum_of x)) (members_json (codes ",") (data_of_list (map datum_of (drop (i + 1) c.args.members.now)))) _ _ _ _ _ _
    (printed_as whole _ _ _ _ _ _ (next_member separator c.args.members.now i x c.loop-member-test.true c.member-item.is) c.loop-member.invariant)
    c.from_residual.ensures.0 c.in_err-write_member.ensures

pub write_each_member-loop-member-preserved : goal.write_each_member-loop-member-preserved
write_each_member-loop-member-preserved g t c =
    let i = c.loop-member.member-index in
    let x = c.member-item.result in
    let whole = members_json [] (data_of_list (map datum_of c.args.members.now)) in
    let separator = c.loop-member.separator.now in
    printed_more whole (separator ++ json_of (datum_of x)) (members_json (codes ",") (data_of_list (map datum_of (drop (i + 1) c.args.members.now)))) _ _ _ _ _ _
    (printed_as whole _ _ _ _ _ _ (next_member separator c.args.members.now i x c.loop-member-test.true c.member-item.is) c.loop-member.invariant)
    c.in_ok-write_member.ensures

pub write_each_pair-returns-in_err-write_text : goal.write_each_pair-returns-in_err-write_text
write_each_pair-returns-in_err-write_text g t c =
    let named = c.args.named in
    let i = c.loop-pair.pair-index in
    let x = c.pair-item.result in
    let whole = pairs_json named [] (data_of_list (in_turn (map pair_data c.args.pairs.now))) in
    let separator = c.loop-pair.separator.now in
    let ending = c.after_value-ending.result.now in
    let key = c.before_key-opening.result.now ++ json_of (datum_of x.0) in
    let value = c.before_value-middle.result.now ++ json_of (datum_of x.1) in
    let rest = pairs_json named (codes ",") (data_of_list (in_turn (map pair_data (drop (i + 1) c.args.pairs.now)))) in
    let begun = printed_as whole _ _ _ _ _ _ (next_pair_as named _ _ _ separator c.args.pairs.now i x c.before_key-opening.ensures c.before_value-middle.ensures
    c.after_value-ending.ensures c.loop-pair-test.true c.pair-item.is) c.loop-pair.invariant in
    write_failed c.from_residual.result whole separator (key ++ (value ++ (ending ++ rest))) _ _ _ _ _ _ begun c.from_residual.ensures.0 c.in_err-write_text.ensures

pub write_each_pair-returns-in_err-write_member : goal.write_each_pair-returns-in_err-write_member
write_each_pair-returns-in_err-write_member g t c =
    let named = c.args.named in
    let i = c.loop-pair.pair-index in
    let x = c.pair-item.result in
    let whole = pairs_json named [] (data_of_list (in_turn (map pair_data c.args.pairs.now))) in
    let separator = c.loop-pair.separator.now in
    let ending = c.after_value-ending.result.now in
    let key = c.before_key-opening.result.now ++ json_of (datum_of x.0) in
    let value = c.before_value-middle.result.now ++ json_of (datum_of x.1) in
    let rest = pairs_json named (codes ",") (data_of_list (in_turn (map pair_data (drop (i + 1) c.args.pairs.now)))) in
    let begun = printed_as whole _ _ _ _ _ _ (next_pair_as named _ _ _ separator c.args.pairs.now i x c.before_key-opening.ensures c.before_value-middle.ensures
    c.after_value-ending.ensures c.loop-pair-test.true c.pair-item.is) c.loop-pair.invariant in
    let opened = printed_more whole separator (key ++ (value ++ (ending ++ rest))) _ _ _ _ _ _ begun c.in_ok-write_text.ensures in
    let r = c.from_residual-in_err-write_member.result in
    write_failed r whole key (value ++ (ending ++ rest)) _ _ _ _ _ _ opened c.from_residual-in_err-write_member.ensures.0 c.in_err-write_member.ensures

pub write_each_pair-returns-in_err-write_member-2 : goal.write_each_pair-returns-in_err-write_member-2
write_each_pair-returns-in_err-write_member-2 g t c =
    let named = c.args.named in
    let i = c.loop-pair.pair-index in
    let x = c.pair-item.result in
    let whole = pairs_json named [] (data_of_list (in_turn (map pair_data c.args.pairs.now))) in
    let separator = c.loop-pair.separator.now in
    let ending = c.after_value-ending.result.now in
    let key = c.before_key-opening.result.now ++ json_of (datum_of x.0) in
    let value = c.before_value-middle.result.now ++ json_of (datum_of x.1) in
    let rest = pairs_json named (codes ",") (data_of_list (in_turn (map pair_data (drop (i + 1) c.args.pairs.now)))) in
    let begun = printed_as whole _ _ _ _ _ _ (next_pair_as named _ _ _ separator c.args.pairs.now i x c.before_key-opening.ensures c.before_value-middle.ensures
    c.after_value-ending.ensures c.loop-pair-test.true c.pair-item.is) c.loop-pair.invariant in
    let opened = printed_more whole separator (key ++ (value ++ (ending ++ rest))) _ _ _ _ _ _ begun c.in_ok-write_text.ensures in
    let keyed = printed_more whole key (value ++ (ending ++ rest)) _ _ _ _ _ _ opened c.in_ok-write_member.ensures in
    let r = c.from_residual-in_err-write_member-2.result in
    write_failed r whole value (ending ++ rest) _ _ _ _ _ _ keyed c.from_residual-in_err-write_member-2.ensures.0 c.in_err-write_member-2.ensures

pub write_each_pair-returns-in_err-write_text-2 : goal.write_each_pair-returns-in_err-write_text-2
write_each_pair-returns-in_err-write_text-2 g t c =
    let named = c.args.named in
    let i = c.loop-pair.pair-index in
    let x = c.pair-item.result in
    let whole = pairs_json named [] (data_of_list (in_turn (map pair_data c.args.pairs.now))) in
    let separator = c.loop-pair.separator.now in
    let ending = c.after_value-ending.result.now in
    let key = c.before_key-opening.result.now ++ json_of (datum_of x.0) in
    let value = c.before_value-middle.result.now ++ json_of (datum_of x.1) in
    let rest = pairs_json named (codes ",") (data_of_list (in_turn (map pair_data (drop (i + 1) c.args.pairs.now)))) in
    let begun = printed_as whole _ _ _ _ _ _ (next_pair_as named _ _ _ separator c.args.pairs.now i x c.before_key-opening.ensures c.before_value-middle.ensures
    c.after_value-ending.ensures c.loop-pair-test.true c.pair-item.is) c.loop-pair.invariant in
    let opened = printed_more whole separator (key ++ (value ++ (ending ++ rest))) _ _ _ _ _ _ begun c.in_ok-write_text.ensures in
    let keyed = printed_more whole key (value ++ (ending ++ rest)) _ _ _ _ _ _ opened c.in_ok-write_member.ensures in
    let paired = printed_more whole value (ending ++ rest) _ _ _ _ _ _ keyed c.in_ok-write_member-2.ensures in
    let r = c.from_residual-in_err-write_text-2.result in
    write_failed r whole ending rest _ _ _ _ _ _ paired c.from_residual-in_err-write_text-2.ensures.0 c.in_err-write_text-2.ensures

pub write_each_pair-loop-pair-preserved : goal.write_each_pair-loop-pair-preserved
write_each_pair-loop-pair-preserved g t c =
    let named = c.args.named in
    let i = c.loop-pair.pair-index in
    let x = c.pair-item.result in
    let whole = pairs_json named [] (data_of_list (in_turn (map pair_data c.args.pairs.now))) in
    let separator = c.loop-pair.separator.now in
    let ending = c.after_value-ending.result.now in
    let key = c.before_key-opening.result.now ++ json_of (datum_of x.0) in
    let value = c.before_value-middle.result.now ++ json_of (datum_of x.1) in
    let rest = pairs_json named (codes ",") (data_of_list (in_turn (map pair_data (drop (i + 1) c.args.pairs.now)))) in
    let begun = printed_as whole _ _ _ _ _ _ (next_pair_as named _ _ _ separator c.args.pairs.now i x c.before_key-opening.ensures c.before_value-middle.ensures
    c.after_value-ending.ensures c.loop-pair-test.true c.pair-item.is) c.loop-pair.invariant in
    let opened = printed_more whole separator (key ++ (value ++ (ending ++ rest))) _ _ _ _ _ _ begun c.in_ok-write_text.ensures in
    let keyed = printed_more whole key (value ++ (ending ++ rest)) _ _ _ _ _ _ opened c.in_ok-write_member.ensures in
    let paired = printed_more whole value (ending ++ rest) _ _ _ _ _ _ keyed c.in_ok-write_member-2.ensures in
    printed_more whole ending rest _ _ _ _ _ _ paired c.in_ok-write_text-2.ensures

pub write_member-returns-in_err-write_text : goal.write_member-returns-in_err-write_text
write_member-returns-in_err-write_text g t c =
    writes_part c.from_residual.result _ _ _ _ c.args.separator.now (json_of (datum_of c.args.member.now)) c.from_residual.ensures.0 c.in_err-write_text.ensures

pub write_member-returns : goal.write_member-returns
write_member-returns g t c =
    writes_next c.write_json.result _ _ _ _ _ _ c.args.separator.now (json_of (datum_of c.args.member.now)) c.in_ok-write_text.ensures c.write_json.ensures

pub write_members-returns-in_err-write_text : goal.write_members-returns-in_err-write_text
write_members-returns-in_err-write_text g t c =
    let inner = members_json [] (data_of_list (map datum_of c.args.members.now)) in
    writes_part c.from_residual.result _ _ _ _ c.args.front.now (inner ++ c.args.«end».now) c.from_residual.ensures.0 c.in_err-write_text.ensures

pub write_members-returns-in_err-write_each_member : goal.write_members-returns-in_err-write_each_member
write_members-returns-in_err-write_each_member g t c =
    let inner = members_json [] (data_of_list (map datum_of c.args.members.now)) in
    let r = c.from_residual-in_err-write_each_member.result in
    writes_next r _ _ _ _ _ _ c.args.front.now (inner ++ c.args.«end».now) c.in_ok-write_text.ensures
    (writes_part r _ _ _ _ inner c.args.«end».now c.from_residual-in_err-write_each_member.ensures.0 c.in_err-write_each_member.ensures)

pub write_members-returns : goal.write_members-returns
write_members-returns g t c =
    let inner = members_json [] (data_of_list (map datum_of c.args.members.now)) in
    let r = c.write_text-2.result in
    writes_next r _ _ _ _ _ _ c.args.front.now (inner ++ c.args.«end».now) c.in_ok-write_text.ensures
    (writes_next r _ _ _ _ _ _ inner c.args.«end».now c.in_ok-write_each_member.ensures c.write_text-2.ensures)

pub write_pairs-returns-in_err-write_text : goal.write_pairs-returns-in_err-write_text
write_pairs-returns-in_err-write_text g t c =
    let xs = data_of_list (in_turn (map pair_data c.args.pairs.now)) in
    let inner = in_brackets (is_object xs) (pairs_json (is_object xs) [] xs) in
    writes_part c.from_residual.result _ _ _ _ c.args.front.now (inner ++ c.args.«end».now) c.from_residual.ensures.0 c.in_err-write_text.ensures

pub write_pairs-returns-in_err-write_text-2 : goal.write_pairs-returns-in_err-write_text-2
write_pairs-returns-in_err-write_text-2 g t c =
    let named = c.is_object-named.result in
    let opening = c.open_bracket.result.now in
    let pairs = pairs_json named [] (data_of_list (in_turn (map pair_data c.args.pairs.now))) in
    let r = c.from_residual-in_err-write_text-2.result in
    subst (WritesText _ _ _ _ r)
    (bracketed_text c.args.front.now opening (close_bracket named) c.args.«end».now c.args.pairs.now named c.is_object-named.ensures c.open_bracket.ensures refl)
    (writes_next r _ _ _ _ _ _ c.args.front.now (opening ++ (pairs ++ (close_bracket named ++ c.args.«end».now))) c.in_ok-write_text.ensures
    (writes_part r _ _ _ _ opening (pairs ++ (close_bracket named ++ c.args.«end».now)) c.from_residual-in_err-write_text-2.ensures.0 c.in_err-write_text-2.ensures))

pub write_pairs-returns-in_err-write_each_pair : goal.write_pairs-returns-in_err-write_each_pair
write_pairs-returns-in_err-write_each_pair g t c =
    let named = c.is_object-named.result in
    let opening = c.open_bracket.result.now in
    let pairs = pairs_json named [] (data_of_list (in_turn (map pair_data c.args.pairs.now))) in
    let r = c.from_residual-in_err-write_each_pair.result in
    subst (WritesText _ _ _ _ r)
    (bracketed_text c.args.front.now opening (close_bracket named) c.args.«end».now c.args.pairs.now named c.is_object-named.ensures c.open_bracket.ensures refl)
    (writes_next r _ _ _ _ _ _ c.args.front.now (opening ++ (pairs ++ (close_bracket named ++ c.args.«end».now))) c.in_ok-write_text.ensures
    (writes_next r _ _ _ _ _ _ opening (pairs ++ (close_bracket named ++ c.args.«end».now)) c.in_ok-write_text-2.ensures
    (writes_part r _ _ _ _ pairs (close_bracket named ++ c.args.«end».now) c.from_residual-in_err-write_each_pair.ensures.0 c.in_err-write_each_pair.ensures)))

pub write_pairs-returns-in_err-write_text-3 : goal.write_pairs-returns-in_err-write_text-3
write_pairs-returns-in_err-write_text-3 g t c =
    let named = c.is_object-named.result in
    let opening = c.open_bracket.result.now in
    let close = c.close_bracket.result.now in
    let pairs = pairs_json named [] (data_of_list (in_turn (map pair_data c.args.pairs.now))) in
    let r = c.from_residual-in_err-write_text-3.result in
    subst (WritesText _ _ _ _ r)
    (bracketed_text c.args.front.now opening close c.args.«end».now c.args.pairs.now named c.is_object-named.ensures c.open_bracket.ensures c.close_bracket.ensures)
    (writes_next r _ _ _ _ _ _ c.args.front.now (opening ++ (pairs ++ (close ++ c.args.«end».now))) c.in_ok-write_text.ensures
    (writes_next r _ _ _ _ _ _ opening (pairs ++ (close ++ c.args.«end».now)) c.in_ok-write_text-2.ensures
    (writes_next r _ _ _ _ _ _ pairs (close ++ c.args.«end».now) c.in_ok-write_each_pair.ensures
    (writes_part r _ _ _ _ close c.args.«end».now c.from_residual-in_err-write_text-3.ensures.0 c.in_err-write_text-3.ensures))))

pub write_pairs-returns : goal.write_pairs-returns
write_pairs-returns g t c =
    let named = c.is_object-named.result in
    let opening = c.open_bracket.result.now in
    let close = c.close_bracket.result.now in
    let pairs = pairs_json named [] (data_of_list (in_turn (map pair_data c.args.pairs.now))) in
    let r = c.write_text-4.result in
    subst (WritesText _ _ _ _ r)
    (bracketed_text c.args.front.now opening close c.args.«end».now c.args.pairs.now named c.is_object-named.ensures c.open_bracket.ensures c.close_bracket.ensures)
    (writes_next r _ _ _ _ _ _ c.args.front.now (opening ++ (pairs ++ (close ++ c.args.«end».now))) c.in_ok-write_text.ensures
    (writes_next r _ _ _ _ _ _ opening (pairs ++ (close ++ c.args.«end».now)) c.in_ok-write_text-2.ensures
    (writes_next r _ _ _ _ _ _ pairs (close ++ c.args.«end».now) c.in_ok-write_each_pair.ensures
    (writes_next r _ _ _ _ _ _ close c.args.«end».now c.in_ok-write_text-3.ensures c.write_text-4.ensures))))

pub write_json-returns-in-Array : goal.write_json-returns-in-Array
write_json-returns-in-Array g t c =
    subst (WritesText _ _ _ _ c.write_members.result)
    (ap (λ ms. json_of (d.aggregate d.Array (data_of_list (map datum_of ms)))) c.list.ensures ∙
    ap json_of (sym (ap datum_of c.in-Array.is ∙ datum_of-Array c.in-Array.members))) c.write_members.ensures

pub write_json-returns-in-Set : goal.write_json-returns-in-Set
write_json-returns-in-Set g t c =
    subst (WritesText _ _ _ _ c.write_members-in-Set.result)
    (ap (λ ms. json_of (d.aggregate d.Set (data_of_list (map datum_of ms)))) c.list-in-Set.ensures ∙
    ap json_of (sym (ap datum_of c.in-Set.is ∙ datum_of-Set c.in-Set.members))) c.write_members-in-Set.ensures

pub write_json-returns-in-Push : goal.write_json-returns-in-Push
write_json-returns-in-Push g t c =
    subst (WritesText _ _ _ _ c.write_members-in-Push.result)
    (ap (λ ms. json_of (d.aggregate d.Push (data_of_list (map datum_of ms)))) c.list-in-Push.ensures ∙
    ap json_of (sym (ap datum_of c.in-Push.is ∙ datum_of-Push c.in-Push.members))) c.write_members-in-Push.ensures

pub write_json-returns-in-Map : goal.write_json-returns-in-Map
write_json-returns-in-Map g t c =
    subst (WritesText _ _ _ _ c.write_pairs.result)
    (ap (λ ps. json_of (d.aggregate d.Map (data_of_list (in_turn (map pair_data ps))))) c.list-in-Map.ensures ∙
    ap json_of (sym (ap datum_of c.in-Map.is ∙ datum_of-Map c.in-Map.pairs))) c.write_pairs.ensures

pub write_json-returns-in_err-write_pairs-in-Attr : goal.write_json-returns-in_err-write_pairs-in-Attr
write_json-returns-in_err-write_pairs-in-Attr g t c =
    let pairs = c.list-in-Attr.result.now in
    let front = attribute_front (data_of_list (in_turn (map pair_data pairs))) in
    let r = c.from_residual.result in
    subst (WritesText _ _ _ _ r) (attribute_json c.args.value.now c.in-Attr.pairs c.in-Attr.annotated pairs c.list-in-Attr.ensures c.in-Attr.is)
    (writes_part r _ _ _ _ front (json_of (datum_of c.in-Attr.annotated.value) ++ codes "}") c.from_residual.ensures.0 c.in_err-write_pairs-in-Attr.ensures)

pub write_json-returns-in_err-write_json-in-Attr : goal.write_json-returns-in_err-write_json-in-Attr
write_json-returns-in_err-write_json-in-Attr g t c =
    let pairs = c.list-in-Attr.result.now in
    let front = attribute_front (data_of_list (in_turn (map pair_data pairs))) in
    let x = json_of (datum_of c.deref.result.now) in
    let r = c.from_residual-in_err-write_json-in-Attr.result in
    subst (WritesText _ _ _ _ r)
    (ap (λ y. front ++ (json_of (datum_of y) ++ codes "}")) c.deref.ensures ∙
    attribute_json c.args.value.now c.in-Attr.pairs c.in-Attr.annotated pairs c.list-in-Attr.ensures c.in-Attr.is)
    (writes_next r _ _ _ _ _ _ front (x ++ codes "}") c.in_ok-write_pairs-in-Attr.ensures
    (writes_part r _ _ _ _ x (codes "}") c.from_residual-in_err-write_json-in-Attr.ensures.0 c.in_err-write_json-in-Attr.ensures))

pub write_json-returns-in_ok-write_json-in-Attr : goal.write_json-returns-in_ok-write_json-in-Attr
write_json-returns-in_ok-write_json-in-Attr g t c =
    let pairs = c.list-in-Attr.result.now in
    let front = attribute_front (data_of_list (in_turn (map pair_data pairs))) in
    let x = json_of (datum_of c.deref.result.now) in
    let r = c.write_text.result in
    subst (WritesText _ _ _ _ r)
    (ap (λ y. front ++ (json_of (datum_of y) ++ codes "}")) c.deref.ensures ∙
    attribute_json c.args.value.now c.in-Attr.pairs c.in-Attr.annotated pairs c.list-in-Attr.ensures c.in-Attr.is)
    (writes_next r _ _ _ _ _ _ front (x ++ codes "}") c.in_ok-write_pairs-in-Attr.ensures
    (writes_next r _ _ _ _ _ _ x (codes "}") c.in_ok-write_json-in-Attr.ensures c.write_text.ensures))
