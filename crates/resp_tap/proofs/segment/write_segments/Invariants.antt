use Rattle.std.proofs.Common.{ℕ, List, Option, Result, drop}
use Rattle.resp_io.specs.declared.device.DeviceFault.{DeviceFault}
use Rattle.resp_tap.specs.Segments.{segments_text}
use Rattle.resp_print.specs.Written.{WritesText}
use Rattle.resp_tap.proofs.segment.write_segments.Given as goal

-- if the rest is written, all is written
abbrev pub invariant-loop-segment : goal.invariant-loop-segment
invariant-loop-segment g l = (r : Result (Unit {0}) DeviceFault) (after : Option (List ℕ)) (failures : ℕ) →
    WritesText (g.W.Sink.written l.writer) after (g.W.Sink.failures l.writer) failures r (segments_text (drop l.segment-index l.segments)) →
    WritesText (g.W.Sink.written l.fn.writer) after (g.W.Sink.failures l.fn.writer) failures r (segments_text l.segments)
