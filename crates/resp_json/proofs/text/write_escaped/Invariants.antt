use Rattle.std.proofs.Common.{length}
use Rattle.resp_json.specs.Json.{escaped}
use Rattle.resp_print.proofs.Printing.{HasPrintedUpTo}
use Rattle.resp_json.proofs.text.write_escaped.Given as goal

abbrev pub invariant-loop-byte : goal.invariant-loop-byte
invariant-loop-byte g l = HasPrintedUpTo (escaped l.text) (escaped l.rest) (g.W.Sink.written l.initial.writer) (g.W.Sink.written l.writer)
    (g.W.Sink.failures l.initial.writer) (g.W.Sink.failures l.writer)

abbrev pub decreases-loop-byte : goal.decreases-loop-byte
decreases-loop-byte g l = length l.rest
