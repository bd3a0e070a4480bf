-- Scripts: their lines, their meaning, and the first bad line.
use Rattle.std.specs.Prelude.{◌≡◌, ◌⊎◌, ℕ, ◌+◌, ◌≤◌, ◌<◌, ◌==◌, Bool, true, false, not, List, [], ◌∷◌, ◌++◌, length, map, filter, sum_by, min, All, Option, None, Some, codes, decimal, if◌then◌else◌}
use Rattle.std.specs.List.{before_first, enumerate_from}
use Rattle.std.specs.Str.{byte}
use Rattle.resp_wire.specs.declared.event.Event.{Event}
use Rattle.resp_cli_loop.specs.ScriptSteps.{SaysStep, SaysClients, joined_words, clients_words, step_words}
use Rattle.resp_cli_loop.specs.Reasons.{IsReason, parts_of_line, reason_text}
use Rattle.resp_cli_loop.specs.declared.script.reasons.BadLine.{BadLine}
use Rattle.resp_cli_loop.specs.declared.script.reasons.BadLine.TheVariants as reasons
use Rattle.resp_cli_loop.specs.declared.script.steps.Saying.{Saying}
use Rattle.resp_cli_loop.specs.declared.script.steps.Saying.TheVariants.{Nothing, Clients, Step}
use Rattle.resp_cli_loop.specs.declared.script.Script.{Script}
use Rattle.resp_cli_loop.specs.declared.script.ScriptError.{ScriptError}
use Rattle.resp_cli_loop.specs.declared.script.ScriptError.TheVariants.{BadScript, Memory}

-- lines with this byte in front of the first one
abbrev pub onto_first_line : ℕ → List (List ℕ) → List (List ℕ)
onto_first_line b [] = (b ∷ []) ∷ []
onto_first_line b (line ∷ lines) = (b ∷ line) ∷ lines

-- the lines of a text: each ends with LF, which is optional in the last one
abbrev pub lines_of : List ℕ → List (List ℕ)
lines_of [] = []
lines_of (b ∷ text) = (if b == byte "\n" then [] ∷ lines_of text else onto_first_line b (lines_of text))

-- whether the line is skipped: it is empty or begins with `#`
abbrev pub is_passed_over : List ℕ → Bool
is_passed_over [] = true
is_passed_over (b ∷ line) = b == byte "#"

-- the lines that are not skipped, each with its number, from 1
abbrev pub said_lines : List (List ℕ) → List (ℕ × List ℕ)
said_lines lines = filter (λ line. not (is_passed_over line.1)) (enumerate_from 1 lines)

-- the line for a step, with its number
abbrev pub step_line : ℕ × Option Event → ℕ × List ℕ
step_line step = (step.0, joined_words (step_words step.1))

-- The lines name this number of clients, followed by these steps, each with the number of its line. All other lines are
-- skipped.
pub record SayScript (clients : ℕ) (lines : List (List ℕ)) (steps : List (ℕ × Option Event)) : Type 0 where
  pub number : ℕ
  pub in_turn : said_lines lines ≡ (number, joined_words (clients_words clients)) ∷ map step_line steps
  pub clients_named : SaysClients (joined_words (clients_words clients)) clients
  pub steps_said : All (λ step. SaysStep clients (joined_words (step_words step.1)) step.1) steps

-- the meaning of the lines so far: nothing, or the number of clients and steps
abbrev pub SaySoFar : Option ℕ → List (List ℕ) → List (ℕ × Option Event) → Type 0
SaySoFar None lines steps = (said_lines lines ≡ []) × (steps ≡ [])
SaySoFar (Some clients) lines steps = SayScript clients lines steps

-- the number of bytes of a text up to the end of these first lines, with the LF after each
abbrev pub bytes_to_end : List ℕ → List (List ℕ) → ℕ
bytes_to_end text lines = min (length text) (sum_by (λ line. length line + 1) lines)

-- the first lines of a text are within the limits of a script
pub record AreWithin (text : List ℕ) (lines : List (List ℕ)) : Type 0 where
  pub few : length lines ≤ 10000
  pub short : All (λ line. length line ≤ 4096) lines
  pub small : bytes_to_end text lines ≤ 1048576

-- the text is this script
pub record IsScript (text : List ℕ) (script : Script) : Type 0 where
  pub said : SayScript script.clients (lines_of text) script.steps.items
  pub within : AreWithin text (lines_of text)

-- the line has this meaning, if this many clients were named, or none yet
abbrev pub Says : Option ℕ → List ℕ → Saying → Type 0
Says named line Nothing = is_passed_over line ≡ true
Says None line (Clients clients) = (is_passed_over line ≡ false) × SaysClients line clients
Says (Some clients) line (Step step) = (is_passed_over line ≡ false) × SaysStep clients line step
Says _ line _ = ⊥

-- a line that is allowed, if this many clients were named, or none yet
abbrev pub SaysSomething : Option ℕ → List ℕ → Type 0
SaysSomething None line = (clients : ℕ) × SaysClients line clients
SaysSomething (Some clients) line = (step : Option Event) × SaysStep clients line step

-- a line that is neither skipped nor allowed
abbrev pub SaysNothing : Option ℕ → List ℕ → Type 0
SaysNothing named line = (is_passed_over line ≡ false) × (SaysSomething named line → ⊥)

-- The line with this number and length exceeds a limit, the first of: lines, the bytes of a line, the bytes of a script.
-- The script has this many bytes up to the end of the line.
abbrev pub PassesLimit : ℕ → ℕ → ℕ → BadLine → Type 0
PassesLimit number bytes read reasons.ManyLines = 10000 < number
PassesLimit number bytes read reasons.LongLine = (number ≤ 10000) × (4096 < bytes)
PassesLimit number bytes read reasons.LongScript = (number ≤ 10000) × (bytes ≤ 4096) × (1048576 < read)
PassesLimit number bytes read _ = ⊥

-- the line exceeds no limit
abbrev pub IsWithin : ℕ → ℕ → ℕ → Type 0
IsWithin number bytes read = (number ≤ 10000) × (bytes ≤ 4096) × (read ≤ 1048576)

-- the line with this number is bad for this reason, and no line before it is bad
pub record IsFirstBad (text : List ℕ) (number : ℕ) (reason : BadLine) : Type 0 where
  pub before : List (List ℕ)
  pub bad : List ℕ
  pub beyond : List (List ℕ)
  pub whole : lines_of text ≡ before ++ bad ∷ beyond
  pub counted : length before + 1 ≡ number
  pub named : Option ℕ
  pub steps : List (ℕ × Option Event)
  pub said : SaySoFar named before steps
  pub within : AreWithin text before
  pub is_bad : (AreWithin text (before ++ bad ∷ []) → ⊥) ⊎ SaysNothing named bad
  pub why :
      PassesLimit number (length bad) (bytes_to_end text (before ++ bad ∷ [])) reason ⊎
      IsWithin number (length bad) (bytes_to_end text (before ++ bad ∷ [])) × IsReason named (parts_of_line bad) reason

-- the first word of a line
abbrev pub first_word : List ℕ → List ℕ
first_word line = before_first (λ b. b == byte " ") line

-- no line begins with the word `clients`
abbrev pub NameNoClients : List (List ℕ) → Type 0
NameNoClients lines = All (λ line. first_word line ≡ codes "clients" → ⊥) lines

-- why a text is not a script: its first bad line, or line 1 if no line names the number of clients
abbrev pub IsRefusedAt : List ℕ → ℕ → BadLine → Type 0
IsRefusedAt text number reason =
    NameNoClients (lines_of text) × (number ≡ 1) × (reason ≡ reasons.NoClients) ⊎
    (NameNoClients (lines_of text) → ⊥) × IsFirstBad text number reason

abbrev pub IsRefusedScript : List ℕ → ScriptError → Type 0
IsRefusedScript text (BadScript number reason) = IsRefusedAt text number reason
IsRefusedScript text Memory = Unit {0}

-- the line that reports a bad script
abbrev pub script_fault_line : ScriptError → List ℕ
script_fault_line (BadScript line reason) = codes "line " ++ decimal line ++ codes ": BadScript\n"
script_fault_line Memory = codes "out of memory\n"

-- the line that explains why a script is bad
abbrev pub script_reason_line : ScriptError → List ℕ
script_reason_line (BadScript line reason) = codes "  " ++ reason_text reason ++ codes "\n"
script_reason_line Memory = []

-- 1 for a bad script, and 3 when out of memory
abbrev pub script_status : ScriptError → ℕ
script_status (BadScript line reason) = 1
script_status Memory = 3
