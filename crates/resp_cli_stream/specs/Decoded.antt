-- The part of a value that `show --json` has read.
use Rattle.std.specs.Prelude.{◌≡◌, ℕ, List, []}
use Rattle.resp_value.specs.declared.cause.Cause.{Cause}
use Rattle.resp_value.specs.declared.cause.Cause.TheVariants as cause
use Rattle.resp_scan.specs.Reading.{HasNoValue}
use Rattle.resp_scan.specs.declared.event.Fault.{Fault}
use Rattle.resp_decode.specs.Decoding.{HasTaken}
use Rattle.resp_decode.specs.declared.decoder.Decoder.{Decoder}
use Rattle.resp_cli_stream.specs.declared.rendering.RenderStop.{RenderStop}
use Rattle.resp_cli_stream.specs.declared.rendering.RenderStop.TheVariants as stop

-- a decoder has read the beginning of a value, and nothing of the value was written
pub record HasDecoded (d : Decoder) (front so_far : List ℕ) : Type 0 where
  pub taken : HasTaken d front
  pub no_value : HasNoValue front
  pub nothing : so_far ≡ []

-- `OutOfMemory` has an error of its own, and the other faults share one
abbrev pub stop_by : Cause → Fault → RenderStop
stop_by cause.OutOfMemory fault = stop.Memory
stop_by _ fault = stop.Fault fault

abbrev pub stop_of : Fault → RenderStop
stop_of fault = stop_by fault.cause fault
