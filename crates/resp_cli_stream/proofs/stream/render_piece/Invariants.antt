use Rattle.std.proofs.Common.{◌≡◌, ◌≤◌, ◌++◌, ℕ, List, Option, length}
use Rattle.resp_cli_stream.specs.Streams.{HasRendered}
use Rattle.resp_cli_stream.proofs.stream.render_piece.Given as goal

abbrev pub invariant-loop-rest : goal.invariant-loop-rest
invariant-loop-rest g l = record {
  done : List ℕ;
  split : l.piece ≡ done ++ l.rest;
  stands : (bytes : List ℕ) (start : Option (List ℕ)) →
      HasRendered (g.T.Rendering.rules l.initial.rendering) (g.T.Rendering.text (g.T.Rendering.rules l.initial.rendering))
      (g.T.Rendering.is_written (g.T.Rendering.rules l.initial.rendering)) (g.T.Rendering.has_taken l.initial.rendering) bytes start
      (g.W.Sink.written l.initial.writer) l.before →
      HasRendered (g.T.Rendering.rules l.initial.rendering) (g.T.Rendering.text (g.T.Rendering.rules l.initial.rendering))
      (g.T.Rendering.is_written (g.T.Rendering.rules l.initial.rendering)) (g.T.Rendering.has_taken l.rendering) (bytes ++ done) start
      (g.W.Sink.written l.writer) l.values;
  few : l.values ≤ 1000000000;
  same_rules : g.T.Rendering.rules l.rendering ≡ g.T.Rendering.rules l.initial.rendering;
  none_failed : g.W.Sink.failures l.writer ≡ g.W.Sink.failures l.initial.writer;
}

abbrev pub decreases-loop-rest : goal.decreases-loop-rest
decreases-loop-rest g l = length l.rest
