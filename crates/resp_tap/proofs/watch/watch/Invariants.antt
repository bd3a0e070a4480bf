use Rattle.std.proofs.Common.{length}
use Rattle.resp_tap.specs.Watches.{KeepsOther}
use Rattle.resp_tap.proofs.PieceLemmas.{HasWatched}
use Rattle.resp_tap.proofs.watch.watch.Given as goal

abbrev pub invariant-loop-rest : goal.invariant-loop-rest
invariant-loop-rest g l = record {
  other : KeepsOther l.side (g.T.Watching.tap_in l.initial.tap) (g.T.Watching.tap_in l.tap);
  so_far : HasWatched (g.T.Watching.watches l.given l.side) (g.T.Watching.state l.initial.tap l.initial.shared)
      (g.T.Watching.state l.tap l.shared) l.piece l.rest
      (g.W.Sink.written l.initial.writer) (g.W.Sink.written l.writer)
      (g.W.Sink.failures l.initial.writer) (g.W.Sink.failures l.writer) l.printed;
}

abbrev pub decreases-loop-rest : goal.decreases-loop-rest
decreases-loop-rest g l = length l.rest
