use Rattle.std.proofs.Common.{codes}
use Rattle.resp_value.specs.Values.{datum_of}
use Rattle.resp_json.specs.Json.{json_of}
use Rattle.resp_print.proofs.WrittenLemmas.{writes_next, writes_part}
use Rattle.resp_json.proofs.value.write_json_line.Goals as goal

pub returns-in_err-write_json : goal.returns-in_err-write_json
returns-in_err-write_json g c =
    writes_part c.from_residual.result _ _ _ _ (json_of (datum_of c.args.value.now)) (codes "\n") c.from_residual.ensures.0 c.in_err-write_json.ensures

pub returns : goal.returns
returns g c =
    writes_next c.write_text.result _ _ _ _ _ _ (json_of (datum_of c.args.value.now)) (codes "\n") c.in_ok-write_json.ensures c.write_text.ensures
