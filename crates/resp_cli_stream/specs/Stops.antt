-- The errors of a value that is not read and written completely.
use Rattle.std.specs.Prelude.{ℕ, Bool, true, false, Result, Ok, Err}
use Rattle.resp_cli_stream.specs.declared.rendering.RenderStop.{RenderStop}
use Rattle.resp_cli_stream.specs.declared.rendering.RenderStop.TheVariants as stop
use Rattle.resp_cli_args.specs.declared.tool_error.ToolError.{ToolError}
use Rattle.resp_cli_args.specs.declared.tool_error.ToolError.TheVariants.{Refused, OverLimits, Write, Memory}

-- whether the error is a failed write
abbrev pub is_of_writer : RenderStop → Bool
is_of_writer stop.Write = true
is_of_writer _ = false

-- whether a call ended with that error
abbrev pub failed_to_write : {X : Type 0} → Result X RenderStop → Bool
failed_to_write (Ok x) = false
failed_to_write (Err s) = is_of_writer s

-- the error of the program, if the value with this number stopped it
abbrev pub error_of : ℕ → RenderStop → ToolError
error_of value (stop.Fault fault) = Refused value fault.cause fault.at
error_of value stop.OverLimits = OverLimits value
error_of value stop.Write = Write
error_of value stop.Memory = Memory
