use Rattle.std.proofs.Common.{◌++◌, codes}
use Rattle.resp_json.specs.Json.{escaped}
use Rattle.resp_print.proofs.WrittenLemmas.{writes_next, writes_part}
use Rattle.resp_json.proofs.text.write_string.Goals as goal

pub returns-in_err-write_text : goal.returns-in_err-write_text
returns-in_err-write_text g c =
    writes_part c.from_residual.result _ _ _ _ (codes "\"") (escaped c.args.text.now ++ codes "\"") c.from_residual.ensures.0 c.in_err-write_text.ensures

pub returns-in_err-write_escaped : goal.returns-in_err-write_escaped
returns-in_err-write_escaped g c =
    let r = c.from_residual-in_err-write_escaped.result in
    writes_next r _ _ _ _ _ _ (codes "\"") (escaped c.args.text.now ++ codes "\"") c.in_ok-write_text.ensures
    (writes_part r _ _ _ _ (escaped c.args.text.now) (codes "\"") c.from_residual-in_err-write_escaped.ensures.0 c.in_err-write_escaped.ensures)

pub returns : goal.returns
returns g c =
    let r = c.write_text-2.result in
    writes_next r _ _ _ _ _ _ (codes "\"") (escaped c.args.text.now ++ codes "\"") c.in_ok-write_text.ensures
    (writes_next r _ _ _ _ _ _ (escaped c.args.text.now) (codes "\"") c.in_ok-write_escaped.ensures c.write_text-2.ensures)
