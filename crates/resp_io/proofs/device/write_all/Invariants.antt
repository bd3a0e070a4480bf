use Rattle.std.proofs.Common.{length, ◌-◌, ◌≡◌, ◌≤◌, take}
use Rattle.resp_io.specs.Devices.{Appends}
use Rattle.resp_io.proofs.device.write_all.Given as goal

-- the first bytes were written, and no write failed
abbrev pub invariant-loop-written : goal.invariant-loop-written
invariant-loop-written g l = record {
  within : l.written ≤ length l.bytes;
  part : Appends (g.W.Sink.written l.initial.sink) (g.W.Sink.written l.sink) (take l.written l.bytes);
  none_failed : g.W.Sink.failures l.sink ≡ g.W.Sink.failures l.initial.sink;
}

abbrev pub decreases-loop-written : goal.decreases-loop-written
decreases-loop-written g l = length l.bytes - l.written
