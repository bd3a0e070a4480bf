-- The line and the exit status for each error.
use Rattle.std.specs.Prelude.{◌≡◌, ◌⊎◌, ◌≤◌, ℕ, List, ◌++◌, Option, codes, decimal}
use Rattle.resp_value.specs.Causes.{name_of}
use Rattle.resp_io.specs.Devices.{count_after}
use Rattle.resp_cli_args.specs.Tried.{TriesText, refusal_line}
use Rattle.resp_cli_args.specs.declared.tool_error.ToolError.{ToolError}
use Rattle.resp_cli_args.specs.declared.tool_error.ToolError.TheVariants.{Refused, OverLimits, TooManyValues, Read, Write, TooManyTurns, Memory}

-- the line for standard error
abbrev pub fault_line : ToolError → List ℕ
fault_line (Refused value cause at) = refusal_line value (name_of cause) at
fault_line (OverLimits value) = codes "value " ++ decimal value ++ codes ": OverLimits\n"
fault_line TooManyValues = codes "value 1000000001: TooManyValues at byte 0\n"
fault_line Read = codes "read failed\n"
fault_line Write = codes "write failed\n"
fault_line TooManyTurns = codes "too many turns\n"
fault_line Memory = codes "out of memory\n"

-- 1 for an error in the input, and 3 if a device or an allocation failed
abbrev pub status_of : ToolError → ℕ
status_of (Refused value cause at) = 1
status_of (OverLimits value) = 1
status_of TooManyValues = 1
status_of _ = 3

-- the line about a name, with the reason
abbrev pub reason_line : List ℕ → List ℕ → List ℕ → List ℕ
reason_line before name why = before ++ (name ++ (codes ": " ++ (why ++ codes "\n")))

-- the line for a file that can't be opened, with the reason
abbrev pub open_failed_line : List ℕ → List ℕ → List ℕ
open_failed_line = reason_line (codes "open failed: ")

-- the line for a host whose address can't be found, with the reason
abbrev pub no_host_line : List ℕ → List ℕ → List ℕ
no_host_line = reason_line (codes "cannot find the address of ")

-- the line for a server to which no connection can be opened, with the reason
abbrev pub no_connection_line : List ℕ → List ℕ → List ℕ
no_connection_line = reason_line (codes "cannot connect to ")

-- Memory was out, or a write of help failed: the line of that error was written, or one write of it failed. The last
-- numbers are the counts of failed writes of help.
abbrev pub TellsFailure : Option (List ℕ) → Option (List ℕ) → ℕ → ℕ → ℕ → ℕ → Type 0
TellsFailure said said' failures failures' writes writes' =
    (TriesText said said' failures failures' (fault_line Memory) × (writes' ≡ writes)) ⊎
    (TriesText said said' failures failures' (fault_line Write) × (writes' ≡ count_after 1 writes))

-- the status of words that ask for help, of wrong words, or after a failed device or allocation
abbrev pub IsWordStatus : ℕ → Type 0
IsWordStatus status = (status ≡ 0) ⊎ (2 ≤ status) × (status ≤ 3)
