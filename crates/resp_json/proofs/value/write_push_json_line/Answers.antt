use Rattle.std.proofs.Common.{ap, codes, map, subst, sym, ◌∙◌}
use Rattle.resp_value.proofs.DatumOf.{datum_of-Push}
use Rattle.resp_value.specs.Data.{data_of_list}
use Rattle.resp_value.specs.Data as d
use Rattle.resp_value.specs.Values.{datum_of}
use Rattle.resp_print.specs.Written.{WritesText}
use Rattle.resp_json.specs.Json.{json_line, json_of}
use Rattle.resp_print.proofs.WrittenLemmas.{writes_next, writes_part}
use Rattle.resp_json.proofs.value.write_push_json_line.Goals as goal

pub returns-in_err-write_members : goal.returns-in_err-write_members
returns-in_err-write_members g c =
    let r = c.from_residual.result in
    subst (WritesText _ _ _ _ r)
    (ap (λ ms. json_line (d.aggregate d.Push (data_of_list (map datum_of ms)))) c.list.ensures ∙ ap json_line (sym (datum_of-Push c.args.members.now)))
    (writes_part r _ _ _ _ (json_of (d.aggregate d.Push (data_of_list (map datum_of c.list.result.now)))) (codes "\n") c.from_residual.ensures.0
    c.in_err-write_members.ensures)

pub returns : goal.returns
returns g c =
    let r = c.write_text.result in
    subst (WritesText _ _ _ _ r)
    (ap (λ ms. json_line (d.aggregate d.Push (data_of_list (map datum_of ms)))) c.list.ensures ∙ ap json_line (sym (datum_of-Push c.args.members.now)))
    (writes_next r _ _ _ _ _ _ (json_of (d.aggregate d.Push (data_of_list (map datum_of c.list.result.now)))) (codes "\n") c.in_ok-write_members.ensures
    c.write_text.ensures)
