use Rattle.std.proofs.Common.{length}
use Rattle.resp_cli_loop.specs.Printed.{HaveTooDeep, push_texts}
use Rattle.resp_print.proofs.Printing.{HasPrintedUpTo}
use Rattle.resp_wire.specs.Worlds.{pushes_with}
use Rattle.resp_cli_loop.proofs.heard.write_pushes.Given as goal

abbrev pub invariant-loop-push : goal.invariant-loop-push
invariant-loop-push g l = record {
  printed : HasPrintedUpTo (push_texts l.client (pushes_with l.pushes)) (push_texts l.client (pushes_with l.rest))
      (g.W.Sink.written l.initial.writer) (g.W.Sink.written l.writer) (g.W.Sink.failures l.initial.writer) (g.W.Sink.failures l.writer);
  deep : HaveTooDeep (pushes_with l.rest) → HaveTooDeep (pushes_with l.pushes);
}

abbrev pub decreases-loop-push : goal.decreases-loop-push
decreases-loop-push g l = length l.rest
