-- The text that `check` writes for a stream.
use Rattle.std.specs.Prelude.{◌≡◌, ℕ, ◌≤◌, List, [], ◌++◌, length, codes, decimal, Option, Result, Ok, Err}
use Rattle.resp_value.specs.Data.{Datum}
use Rattle.resp_io.specs.Devices.{Appends}
use Rattle.resp_value.specs.Rules.{Rules}
use Rattle.resp_value.specs.Spellings.{Cut}
use Rattle.resp_cli_stream.specs.Streams.{RendersStopped, most_values}
use Rattle.resp_print.specs.Written.{AppendsPart}
use Rattle.resp_cli_args.specs.declared.tool_error.ToolError.{ToolError}
use Rattle.resp_cli_args.specs.declared.tool_error.ToolError.TheVariants.{Write}

-- the line of counts
abbrev pub counts_line : ℕ → ℕ → List ℕ
counts_line values bytes = codes "values " ++ decimal values ++ codes " bytes " ++ decimal bytes ++ codes "\n"

-- the bytes are a sequence of values, and IsLine holds of the line of their counts
pub record CountsBy (IsLine : List ℕ → Type 0) (r : Rules) (bytes : List ℕ) : Type 0 where
  pub values : List Datum
  pub cut : Cut r bytes values []
  pub few : length values ≤ most_values
  pub line : IsLine (counts_line (length values) (length bytes))

-- nothing is written for a value
abbrev pub no_text : Datum → List ℕ
no_text x = []

-- each value is read
abbrev pub IsAny : Datum → Type 0
IsAny x = Unit {0}

-- nothing was written for an incomplete value
abbrev pub LeavesNothing : List ℕ → List ℕ → Type 0
LeavesNothing front text = text ≡ []

-- the result for the bytes that were read: the line of counts or the first part of it, or nothing and an error
abbrev pub Counts : Rules → List ℕ → Option (List ℕ) → Option (List ℕ) → Result (Unit {0}) ToolError → Type 0
Counts r bytes before after (Ok x) = CountsBy (Appends before after) r bytes
Counts r bytes before after (Err Write) = CountsBy (AppendsPart before after) r bytes
Counts r bytes before after (Err e) = RendersStopped r no_text IsAny LeavesNothing LeavesNothing bytes before after e
