use Rattle.resp_scan.specs.Kinds.{rules_of}
use Rattle.resp_cli_stream.specs.Counts.{no_text}
use Rattle.resp_cli_stream.proofs.Scanned.{looks_ended}
use Rattle.resp_cli_stream.proofs.check.UnwrittenRendering.finish.Goals as goal

pub returns-clause-ends : goal.returns-clause-ends
returns-clause-ends g c = λ front so_far looked.
    let ((given, scanned), nothing) = looked in
    looks_ended (rules_of c.args.self.now.scanner) no_text front so_far (g.W.Sink.written c.args._writer.now) c.finish.result c.map_err.result
    scanned.no_value (c.taken-viable.ensures.viable front given scanned.reads) nothing (c.finish.ensures.may_end front given scanned.reads)
    (c.finish.ensures.truncated_inside_a_value front given scanned.reads) c.map_err.ensures.cases
