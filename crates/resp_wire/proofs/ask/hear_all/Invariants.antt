use Rattle.std.proofs.Common.{◌≡◌, ◌++◌, List, ℕ, length}
use Rattle.std.specs.List.{concat}
use Rattle.resp_client.specs.Clients.{state_of}
use Rattle.resp_client.specs.Hearing.{WhereTaken}
use Rattle.resp_wire.specs.Hearing.{HearsAll, WaitsBefore}
use Rattle.resp_io.specs.Pieces.{GivesPieces}
use Rattle.resp_io.specs.Turns.{Spends}
use Rattle.resp_wire.proofs.ask.hear_all.Given as goal

abbrev pub invariant-loop-reader : goal.invariant-loop-reader
invariant-loop-reader g l = record {
  heard : (pieces : List (List ℕ)) ×
      GivesPieces (length l.fn.buffer) g.R.Source.remaining g.R.Source.calls g.R.Source.failures l.fn.reader l.reader pieces ×
      WhereTaken l.fn.client (λ front. HearsAll (state_of l.fn.client) l.client l.fn.heard l.heard (front ++ concat pieces) ×
      WaitsBefore (state_of l.fn.client) l.fn.heard front pieces);
  spends : Spends (g.R.Source.calls l.fn.reader) (g.R.Source.calls l.reader) l.fn.turns l.turns;
  none_failed : g.R.Source.failures l.reader ≡ g.R.Source.failures l.fn.reader;
}

abbrev pub decreases-loop-reader : goal.decreases-loop-reader
decreases-loop-reader g l = l.turns
