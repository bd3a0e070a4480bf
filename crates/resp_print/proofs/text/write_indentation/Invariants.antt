use Rattle.resp_print.specs.Shown.{indentation}
use Rattle.resp_print.proofs.Printing.{HasPrintedUpTo}
use Rattle.resp_print.proofs.text.write_indentation.Given as goal

abbrev pub invariant-loop-left : goal.invariant-loop-left
invariant-loop-left g l = HasPrintedUpTo (indentation l.level) (indentation l.left) (g.W.Sink.written l.initial.writer) (g.W.Sink.written l.writer)
    (g.W.Sink.failures l.initial.writer) (g.W.Sink.failures l.writer)

abbrev pub decreases-loop-left : goal.decreases-loop-left
decreases-loop-left g l = l.left
