use Rattle.std.proofs.Common.{length}
use Rattle.resp_print.proofs.QuotedWrites.{HasWrittenFront}
use Rattle.resp_print.proofs.text.write_quoted.Given as goal

abbrev pub invariant-loop-rest : goal.invariant-loop-rest
invariant-loop-rest g l = HasWrittenFront l.text l.rest (g.W.Sink.written l.initial.writer) (g.W.Sink.written l.writer) (g.W.Sink.failures l.initial.writer)
    (g.W.Sink.failures l.writer)

abbrev pub decreases-loop-rest : goal.decreases-loop-rest
decreases-loop-rest g l = length l.rest
