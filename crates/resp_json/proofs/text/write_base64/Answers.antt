use Rattle.std.proofs.Common.{subst, sym}
use Rattle.base64.specs.Engines.{standard}
use Rattle.base64.specs.GeneralPurpose.{encode_of}
use Rattle.resp_json.specs.Json.{escaped}
use Rattle.resp_json.proofs.Base64.{base64_parts}
use Rattle.resp_print.proofs.Printing.{printed_as, printed_more, write_failed}
use Rattle.resp_print.proofs.WrittenLemmas.{writes_next}
use Rattle.resp_print.specs.Written.{WritesText}
use Rattle.resp_json.proofs.text.write_base64.Goals as goal

pub returns-in_err-write_part : goal.returns-in_err-write_part
returns-in_err-write_part g c =
    let whole = escaped (encode_of standard c.args.text.now) in
    let part = c.split_at.result.0.now in
    let beyond = c.split_at.result.1.now in
    let is = base64_parts c.loop-rest.rest.now part beyond c.split_at.ensures.by_index.0 c.split_at.ensures.front_len in
    write_failed c.from_residual.result whole (escaped (encode_of standard part)) (escaped (encode_of standard beyond)) _ _ _ _ _ _
    (printed_as whole _ _ _ _ _ _ is c.loop-rest.invariant) c.from_residual.ensures.0 c.in_err-write_part.ensures

pub loop-rest-preserved : goal.loop-rest-preserved
loop-rest-preserved g c =
    let whole = escaped (encode_of standard c.args.text.now) in
    let part = c.split_at.result.0.now in
    let beyond = c.split_at.result.1.now in
    let is = base64_parts c.loop-rest.rest.now part beyond c.split_at.ensures.by_index.0 c.split_at.ensures.front_len in
    printed_more whole (escaped (encode_of standard part)) (escaped (encode_of standard beyond)) _ _ _ _ _ _
    (printed_as whole _ _ _ _ _ _ is c.loop-rest.invariant) c.in_ok-write_part.ensures

pub returns : goal.returns
returns g c =
    let (front, e, written) = c.loop-rest.invariant in
    subst (WritesText _ _ _ _ c.write_part-2.result) (sym e)
    (writes_next c.write_part-2.result _ _ _ _ _ _ front (escaped (encode_of standard c.loop-rest.rest.now)) written c.write_part-2.ensures)
