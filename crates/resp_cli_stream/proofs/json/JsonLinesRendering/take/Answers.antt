use Rattle.std.proofs.Common.{◌≡◌, refl}
use Rattle.std.specs.Prelude.{MatchOption}
use Rattle.resp_decode.specs.Decoding.{rules_of}
use Rattle.resp_json.specs.Json.{json_line}
use Rattle.resp_io.specs.Devices.{Appends}
use Rattle.resp_value.specs.Values.{datum_of}
use Rattle.resp_cli_stream.specs.declared.rendering.RenderStop.TheVariants.{Write}
use Rattle.resp_cli_stream.proofs.Decoded.{decoded_on, decoded_stop, mapped_ok}
use Rattle.resp_cli_stream.proofs.Outcomes.{is_that_error}
use Rattle.resp_cli_stream.proofs.Scanned.{part_of_value}
use Rattle.resp_cli_stream.proofs.json.JsonLinesRendering.take.Goals.{in-Some+in_ok-write_json_line, in_default}
use Rattle.resp_cli_stream.proofs.json.JsonLinesRendering.take.Goals as goal

pub returns-in_err-fed-clause-takes : goal.returns-in_err-fed-clause-takes
returns-in_err-fed-clause-takes g c = λ front so_far w.
    let r = rules_of c.args.self.now.decoder in
    let held = g.W.Sink.written c.args.writer.now in
    let stop = c.in_err-fed.field-0.0 in
    rw (is_that_error c.from_residual.result stop c.from_residual.ensures.1)
    (decoded_stop r c.feed.new.self front c.args.piece.now so_far held c.feed.result stop w.nothing (c.feed.ensures.refusal front w.taken) c.in_err-fed.ensures.cases)

pub returns-in_err-write_json_line-clause-takes : goal.returns-in_err-write_json_line-clause-takes
returns-in_err-write_json_line-clause-takes g c = λ front so_far w.
    let value = c.in-Some.value in
    let is = mapped_ok _ c.feed.result c.map_err.result c.in_ok-fed.fed c.map_err.ensures.cases c.in_ok-fed.was in
    let gives = (rw is at (c.feed.ensures.value_whole front w.taken)) value c.in-Some.is in
    rw (is_that_error c.from_residual-in_err-write_json_line.result Write c.from_residual-in_err-write_json_line.ensures.1)
    (part_of_value json_line (datum_of value) front c.args.piece.now c.in_ok-fed.fed.used w.nothing gives.spelling c.in_err-write_json_line.ensures.0)

pub returns-clause-takes : goal.returns-clause-takes
returns-clause-takes g c = λ front so_far w.
    let fed = c.in_ok-fed.fed in
    let before = g.W.Sink.written c.args.writer.now in
    let after = g.W.Sink.written c.match-fed.writer in
    let is = mapped_ok _ c.feed.result c.map_err.result fed c.map_err.ensures.cases c.in_ok-fed.was in
    let wrote : MatchOption fed.value (after ≡ before) (λ x. Appends before after (json_line (datum_of x))) = elim c.match-fed.branch [
      | in-Some+in_ok-write_json_line v ↦ rw (v.in-Some.is, v.writer-is) v.in_ok-write_json_line.ensures.0
      | in_default v ↦ rw (v.in_default.is, v.writer-is) refl
    ] in
    rw c.is_some.ensures (decoded_on (rules_of c.args.self.now.decoder) c.feed.new.self front c.args.piece.now so_far fed.used fed.value before after w.no_value
    w.nothing (rw is at (c.feed.ensures.value_whole front w.taken)) (rw is at (c.feed.ensures.used_up front w.taken)) wrote)
