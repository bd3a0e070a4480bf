use Rattle.std.proofs.Common.{◌≡◌, ◌+◌, length}
use Rattle.resp_cli_loop.specs.Printed.{HaveTooDeep, reply_texts}
use Rattle.resp_print.proofs.Printing.{HasPrintedUpTo}
use Rattle.resp_wire.specs.Worlds.{values_in}
use Rattle.resp_cli_loop.proofs.heard.write_replies.Given as goal

abbrev pub invariant-loop-reply : goal.invariant-loop-reply
invariant-loop-reply g l = record {
  printed : HasPrintedUpTo (reply_texts l.client l.count (values_in l.replies)) (reply_texts l.client l.number (values_in l.rest))
      (g.W.Sink.written l.initial.writer) (g.W.Sink.written l.writer) (g.W.Sink.failures l.initial.writer) (g.W.Sink.failures l.writer);
  deep : HaveTooDeep (values_in l.rest) → HaveTooDeep (values_in l.replies);
  counted : l.number + length l.rest ≡ l.count + length l.replies;
}

abbrev pub decreases-loop-reply : goal.decreases-loop-reply
decreases-loop-reply g l = length l.rest
