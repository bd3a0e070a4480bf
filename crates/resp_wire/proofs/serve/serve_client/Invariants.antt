use Rattle.std.proofs.Common.{◌≡◌, length, true}
use Rattle.resp_io.specs.Turns.{SpendsTurns}
use Rattle.resp_wire.proofs.Visited.{HasVisited}
use Rattle.resp_wire.proofs.serve.serve_client.Given as goal

abbrev pub invariant-loop-closing : goal.invariant-loop-closing
invariant-loop-closing g l = record {
  here : g.T.Sessions.knows l.sessions l.client;
  known : g.T.Sessions.has l.fn.sessions l.fn.client ≡ true;
  flag : l.closing ≡ g.T.Sessions.closing l.sessions l.client;
  visited : HasVisited (length l.fn.buffer) g.W.Sink.written g.R.Source.remaining g.R.Source.calls g.R.Source.failures l.fn.writer l.writer l.fn.reader l.reader
      (g.T.Sessions.has_served l.held) g.T.Sessions.writes g.T.Sessions.waiting g.T.Sessions.closing l.fn.sessions l.fn.client l.sessions l.client;
  room : length l.buffer ≡ length l.fn.buffer;
  writes : g.W.Sink.failures l.writer ≡ g.W.Sink.failures l.fn.writer;
  reads : g.R.Source.failures l.reader ≡ g.R.Source.failures l.fn.reader;
  spends : SpendsTurns (g.W.Sink.calls l.fn.writer) (g.W.Sink.calls l.writer) (g.R.Source.calls l.fn.reader) (g.R.Source.calls l.reader) l.fn.turns l.left;
}

abbrev pub decreases-loop-closing : goal.decreases-loop-closing
decreases-loop-closing g l = l.left
