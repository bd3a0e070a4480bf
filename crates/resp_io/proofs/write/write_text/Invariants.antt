use Rattle.std.proofs.Common.{◌≡◌, ◌<◌, ◌≤◌, length, take}
use Rattle.resp_io.specs.Devices.{Appends}
use Rattle.resp_io.specs.Turns.{Spends}
use Rattle.resp_io.proofs.write.write_text.Given as goal

abbrev pub invariant-loop-count : goal.invariant-loop-count
invariant-loop-count g l = record {
  within : l.count ≤ length l.fn.text;
  appended : Appends (g.W.Sink.written l.fn.writer) (g.W.Sink.written l.writer) (take l.count l.fn.text);
  spends : Spends (g.W.Sink.calls l.fn.writer) (g.W.Sink.calls l.writer) l.fn.turns l.turns;
  onward : 0 < l.count → l.turns < l.fn.turns;
  none_failed : g.W.Sink.failures l.writer ≡ g.W.Sink.failures l.fn.writer;
}

abbrev pub decreases-loop-count : goal.decreases-loop-count
decreases-loop-count g l = l.turns
