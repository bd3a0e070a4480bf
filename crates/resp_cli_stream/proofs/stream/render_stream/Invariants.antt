use Rattle.std.proofs.Common.{◌≡◌, ◌≤◌, ◌*◌, ℕ, List, length, vec_len}
use Rattle.resp_cli_stream.specs.Live.{EachRead, IsLive}
use Rattle.resp_cli_stream.specs.Streams.{AreRead, HasRendered}
use Rattle.resp_cli_stream.proofs.ReadLemmas.{HasCalled}
use Rattle.resp_cli_stream.proofs.stream.render_stream.Given as goal

abbrev pub invariant-loop : goal.invariant-loop
invariant-loop g l = record {
  bytes : List ℕ;
  read : AreRead (g.R.Source.remaining l.initial.reader) (g.R.Source.remaining l.reader) bytes;
  size : l.totals.bytes ≡ length bytes;
  bounded : length bytes ≤ l.counter * l.piece;
  stands : HasRendered (g.T.Rendering.rules l.initial.rendering) (g.T.Rendering.text (g.T.Rendering.rules l.initial.rendering))
      (g.T.Rendering.is_written (g.T.Rendering.rules l.initial.rendering)) (g.T.Rendering.has_taken l.rendering) bytes
      (g.W.Sink.written l.initial.writer) (g.W.Sink.written l.writer) l.totals.values;
  few : l.totals.values ≤ 1000000000;
  same_rules : g.T.Rendering.rules l.rendering ≡ g.T.Rendering.rules l.initial.rendering;
  calls : HasCalled l.counter (g.R.Source.calls l.initial.reader) (g.R.Source.calls l.reader);
  unfailing : g.R.Source.failures l.reader ≡ g.R.Source.failures l.initial.reader;
  none_failed : g.W.Sink.failures l.writer ≡ g.W.Sink.failures l.initial.writer;
  live : g.T.Rendering.writes → EachRead (g.R.LiveSource.looks l.initial.reader) (g.R.LiveSource.looks l.reader)
      (IsLive (g.T.Rendering.rules l.initial.rendering) (g.T.Rendering.text (g.T.Rendering.rules l.initial.rendering))
      (g.T.Rendering.is_due (g.T.Rendering.rules l.initial.rendering)) (g.R.Source.remaining l.initial.reader) (g.W.Sink.written l.initial.writer));
  room : vec_len l.buffer ≡ l.piece;
}
