use Rattle.std.proofs.Common.{length}
use Rattle.resp_print.proofs.Printing.{HasPrintedUpTo}
use Rattle.resp_cli_stream.specs.Valid.{names_text}
use Rattle.resp_cli_stream.proofs.valid.write_names.Given as goal

abbrev pub invariant-loop-byte : goal.invariant-loop-byte
invariant-loop-byte g l = record {
  printed : HasPrintedUpTo (names_text l.bytes) (names_text l.rest) (g.F.Sink.written l.initial.faults) (g.F.Sink.written l.faults)
      (g.F.Sink.failures l.initial.faults) (g.F.Sink.failures l.faults);
}

abbrev pub decreases-loop-byte : goal.decreases-loop-byte
decreases-loop-byte g l = length l.rest
