use Rattle.std.proofs.Common.{◌≡◌, None}
use Rattle.resp_value.specs.Bounds.{Bounds}
use Rattle.resp_session.specs.Worlds.{World}
use Rattle.resp_wire.specs.Worlds.{Shows}
use Rattle.resp_cli_loop.specs.Plays.{PlaysAll, flush_events}
use Rattle.resp_cli_loop.proofs.play.flush.Given as goal

abbrev pub invariant-loop-index : goal.invariant-loop-index
invariant-loop-index g l = record {
  plays : (limits : Bounds) (w : World) → Shows g.L.Link.is_honest l.fn.world limits w →
      PlaysAll g.L.Link.is_honest limits w (flush_events l.line l.index) l.world (g.W.Sink.written l.fn.writer) (g.W.Sink.written l.writer);
  none_failed : g.W.Sink.failures l.writer ≡ g.W.Sink.failures l.fn.writer;
  going : l.fn.world.stopped ≡ None → l.world.stopped ≡ None;
}
