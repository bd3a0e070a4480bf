-- The result of running the program over a stream.
use Rattle.std.specs.Prelude.{◌≡◌, ◌⊎◌, ℕ, Bool, false, true, codes, List, [], Option, Some, IfSome, Result, Ok, Err}
use Rattle.resp_io.specs.Devices.{failures_after}
use Rattle.resp_value.specs.Canonical.{canonical_text, Fits}
use Rattle.resp_value.specs.Rules.{Rules}
use Rattle.clap.specs.Words.{App, Text}
use Rattle.resp_cli_args.specs.CommandWords.{AreWrong, AskFor, AskForHelp}
use Rattle.resp_cli_stream.specs.Counts.{Counts, IsAny, LeavesNothing}
use Rattle.resp_cli_args.specs.Faults.{fault_line, status_of}
use Rattle.resp_io.specs.Live.{Look}
use Rattle.resp_json.specs.Json.{json_line}
use Rattle.resp_cli_stream.specs.Live.{EachRead, IsLive}
use Rattle.resp_cli_stream.specs.Scans.{IsShownDue, IsShownIn, IsShownOf}
use Rattle.resp_print.specs.Shown.{shown_text}
use Rattle.resp_cli_stream.specs.Streams.{AreRead, AtEnd, Renders, is_of_reader, is_of_writer}
use Rattle.resp_cli_args.specs.Tried.{TriesText}
use Rattle.resp_cli_args.specs.declared.asked.Invocation.TheVariants.{Stream}
use Rattle.resp_cli_args.specs.declared.options.Options.{Options}
use Rattle.resp_cli_args.specs.declared.options.Task.{Task}
use Rattle.resp_cli_args.specs.declared.options.Task.TheVariants.{Show, Check, Canon}
use Rattle.resp_cli_args.specs.declared.tool_error.ToolError.{ToolError}

-- The text that a task has written for the bytes that were read, depending on how it ended. The flag says whether `show`
-- writes JSON.
abbrev pub TaskWrites : Task → Bool → Rules → List ℕ → Option (List ℕ) → Option (List ℕ) → Result (Unit {0}) ToolError → Type 0
TaskWrites Show false r bytes before after result =
    Renders r shown_text IsAny IsShownOf (IsShownIn r) bytes before after result
TaskWrites Show true r bytes before after result =
    Renders r json_line IsAny LeavesNothing LeavesNothing bytes before after result
TaskWrites Check json r bytes before after result = Counts r bytes before after result
TaskWrites Canon json r bytes before after result =
    Renders r (canonical_text r.version) (Fits r) LeavesNothing LeavesNothing bytes before after result

-- before each read of a task that writes as it reads, the text due by then was sent
abbrev pub Lives : Task → Bool → Rules → Option (List ℕ) → Option (List ℕ) → Option (List Look) → Option (List Look) → Type 0
Lives Show false r left before looks looks' = EachRead looks looks' (IsLive r shown_text IsShownDue left before)
Lives Show true r left before looks looks' = EachRead looks looks' (IsLive r json_line LeavesNothing left before)
Lives Check json r left before looks looks' = Unit {0}
Lives Canon json r left before looks looks' =
    EachRead looks looks' (IsLive r (canonical_text r.version) LeavesNothing left before)

-- the exit status of a task with this result
abbrev pub status_of_run : Result (Unit {0}) ToolError → ℕ
status_of_run (Ok x) = 0
status_of_run (Err e) = status_of e

-- After success nothing is written; after an error its line is written, or one write of it failed.
abbrev pub TellsOutcome : Option (List ℕ) → Option (List ℕ) → ℕ → ℕ → Result (Unit {0}) ToolError → Type 0
TellsOutcome said said' failures failures' (Ok x) = (said' ≡ said) × (failures' ≡ failures)
TellsOutcome said said' failures failures' (Err error) = TriesText said said' failures failures' (fault_line error)

-- the task ran under these rules, ended with this status, and its error was reported
pub record HasRun (task : Task) (json : Bool) (rules : Rules) (left left' before after said said' : Option (List ℕ))
    (looks looks' : Option (List Look)) (failures failures' status : ℕ) : Type 0 where
  pub bytes : List ℕ
  pub result : Result (Unit {0}) ToolError
  pub read : AreRead left left' bytes
  pub to_its_end : AtEnd result (IfSome left (λ _. left' ≡ Some []))
  pub ran : TaskWrites task json rules bytes before after result
  pub live : Lives task json rules left before looks looks'
  pub ended : status_of_run result ≡ status
  pub told : TellsOutcome said said' failures failures' result

-- Status 3: the line of an error was written, or one write of it failed. Memory was out, one read or one write failed,
-- or no read was left. The last numbers are the counts of failed reads and writes.
pub record FailsAtThree (said said' : Option (List ℕ)) (failures failures' reads reads' writes writes' : ℕ) : Type 0 where
  pub error : ToolError
  pub status : status_of error ≡ 3
  pub told : TriesText said said' failures failures' (fault_line error)
  pub read : reads' ≡ failures_after (is_of_reader error) reads
  pub written : writes' ≡ failures_after (is_of_writer error) writes

-- The failures of a run with this exit status: at status 3 those above, and at another status no read and no write.
pub record HasFailures (status : ℕ) (said said' : Option (List ℕ))
    (failures failures' reads reads' writes writes' : ℕ) : Type 0 where
  pub at_three : status ≡ 3 → FailsAtThree said said' failures failures' reads reads' writes writes'
  pub at_others : (status ≡ 3 → ⊥) → (reads' ≡ reads) × (writes' ≡ writes)

-- the words ask for a task over standard input, and for nothing else
abbrev pub AskForRun : App → List Text → Options → Type 0
AskForRun program words options =
    AskFor program words (Stream options) × (options.file.now ≡ codes "-") × (options.explains ≡ false)

-- The result of a command line: help, a usage error, a failed device or allocation, or a run of the options. The first
-- proposition says that nothing was read, the second one that help was written, the third one which options were run.
abbrev pub DoesWords : App → List Text → Type 0 → Type 0 → (Options → Type 0) → ℕ → Type 0
DoesWords program words Stays Helps Runs status =
    (Stays × Helps × (status ≡ 0) × AskForHelp program words)
    ⊎ (Stays × (status ≡ 2) × AreWrong AskForRun program words)
    ⊎ (Stays × (status ≡ 3))
    ⊎ ((options : Options) × AskForRun program words options × Runs options)
