use Rattle.std.proofs.Common.{inl}
use Rattle.resp_decode.specs.Decoding.{rules_of}
use Rattle.resp_json.specs.Json.{json_line}
use Rattle.resp_cli_stream.proofs.Scanned.{ends_between, looks_ended}
use Rattle.resp_cli_stream.proofs.json.JsonLinesRendering.finish.Goals as goal

pub returns-clause-ends : goal.returns-clause-ends
returns-clause-ends g c = λ front so_far w.
    let r = rules_of c.args.self.now.decoder in
    let between = c.finish.ensures.only_between_values front w.taken in
    looks_ended r json_line front so_far (g.W.Sink.written c.args._writer.now) c.finish.result c.map_err.result w.no_value
    (c.taken-viable.ensures.viable front w.taken) w.nothing (λ ok. inl (between.0 ok), λ may. between.1 (ends_between r front w.no_value may))
    (c.finish.ensures.truncated_inside_a_value front w.taken) c.map_err.ensures.cases
