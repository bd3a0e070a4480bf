use Rattle.std.proofs.Common.{◌≡◌, ◌++◌, List, ℕ}
use Rattle.resp_client.specs.Clients.{state_of}
use Rattle.resp_client.specs.Hearing.{WhereTaken}
use Rattle.resp_io.specs.Turns.{WereRead}
use Rattle.resp_cli_ask.specs.Hearing.{Tells}
use Rattle.resp_cli_ask.proofs.hear.hear_until.Given as goal

abbrev pub invariant-loop-reader : goal.invariant-loop-reader
invariant-loop-reader g l = record {
  told : (came : List ℕ) × WereRead (g.R.Source.remaining l.fn.reader) (g.R.Source.remaining l.reader) came ×
      WhereTaken l.fn.client (λ front. Tells l.fn.telling l.telling (state_of l.fn.client) l.client (g.O.Sink.written l.fn.output)
      (g.O.Sink.written l.output) (front ++ came));
  reads : g.R.Source.failures l.reader ≡ g.R.Source.failures l.fn.reader;
  prints : g.O.Sink.failures l.output ≡ g.O.Sink.failures l.fn.output;
}

abbrev pub decreases-loop-reader : goal.decreases-loop-reader
decreases-loop-reader g l = l.turns
