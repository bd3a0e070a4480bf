use Rattle.std.proofs.Common.{length}
use Rattle.base64.specs.Engines.{standard}
use Rattle.base64.specs.GeneralPurpose.{encode_of}
use Rattle.resp_json.specs.Json.{escaped}
use Rattle.resp_print.proofs.Printing.{HasPrintedUpTo}
use Rattle.resp_json.proofs.text.write_base64.Given as goal

abbrev pub invariant-loop-rest : goal.invariant-loop-rest
invariant-loop-rest g l = HasPrintedUpTo (escaped (encode_of standard l.text)) (escaped (encode_of standard l.rest)) (g.W.Sink.written l.initial.writer)
    (g.W.Sink.written l.writer) (g.W.Sink.failures l.initial.writer) (g.W.Sink.failures l.writer)

abbrev pub decreases-loop-rest : goal.decreases-loop-rest
decreases-loop-rest g l = length l.rest
