use Rattle.std.proofs.Common.{◌≡◌, ◌-◌, length}
use Rattle.resp_io.specs.Turns.{Spends}
use Rattle.resp_wire.proofs.Visited.{HasAnswered}
use Rattle.resp_wire.proofs.serve.answer.Given as goal

abbrev pub invariant-loop-used : goal.invariant-loop-used
invariant-loop-used g l = record {
  here : g.T.Sessions.knows l.sessions l.client;
  answered : HasAnswered (g.T.Sessions.has_served l.held) g.T.Sessions.waiting g.T.Sessions.closing (g.W.Sink.written l.fn.writer) (g.W.Sink.written l.writer)
      l.fn.sessions l.fn.client l.sessions l.client l.piece l.used l.closing;
  failures : g.W.Sink.failures l.writer ≡ g.W.Sink.failures l.fn.writer;
  spends : Spends (g.W.Sink.calls l.fn.writer) (g.W.Sink.calls l.writer) l.fn.turns l.turns;
}

abbrev pub decreases-loop-used : goal.decreases-loop-used
decreases-loop-used g l = length l.piece - l.used
