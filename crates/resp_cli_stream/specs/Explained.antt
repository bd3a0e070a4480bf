-- The lines that explain an error in a stream.
use Rattle.std.specs.Prelude.{◌≡◌, ◌⊎◌, ℕ, ◌+◌, ◌-◌, ◌≤◌, false, List, [], ◌++◌, get_or, length, drop, take, codes, decimal, replicate, Option}
use Rattle.std.specs.Prelude.{Some, None}
use Rattle.resp_cli_stream.specs.Hints.{IsHint, hint_line, version_text}
use Rattle.resp_cli_stream.specs.Valid.{AreNext, NamesNext, next_text}
use Rattle.resp_cli_stream.specs.declared.explain.ErrorFacts.{ErrorFacts}
use Rattle.resp_cli_stream.specs.declared.hint.Hint.{Hint}
use Rattle.resp_cli_stream.specs.declared.valid.NextBytes.{NextBytes}
use Rattle.resp_io.specs.Devices.{Appends, last_count}
use Rattle.resp_value.specs.Rules.{Rules, WithinTotal, rules_under}
use Rattle.resp_value.specs.Spellings.{IsViable}
use Rattle.resp_value.specs.declared.cause.Cause.{Cause}
use Rattle.resp_value.specs.declared.cause.Cause.TheVariants as cause
use Rattle.resp_value.specs.declared.version.Version.{Version}
use Rattle.resp_value.specs.declared.version.Version.TheVariants.{Two, Three}
use Rattle.resp_scan.specs.Kinds.{rules_of}
use Rattle.resp_fronts.specs.LeastCompletions.{IsLeast}
use Rattle.resp_cli_stream.specs.Begun.{HasReadOrRefused, HavePassed}
use Rattle.resp_cli_stream.specs.Takings.{Begins}
use Rattle.resp_print.specs.Shown.{quoted_text}
use Rattle.resp_cli_args.specs.declared.tool_error.ToolError.{ToolError}
use Rattle.resp_cli_args.specs.declared.tool_error.ToolError.TheVariants.{Refused, OverLimits, TooManyValues}
use Rattle.resp_cli_stream.specs.declared.watched.PlacedSource.{PlacedSource}

-- the version and limits of the values that are watched
abbrev pub rules_watched : {R : Type 0} → PlacedSource R → Rules
rules_watched w = rules_of w.starts.scanner

-- the number of bytes that are in memory
abbrev pub held_bytes : {R : Type 0} → PlacedSource R → ℕ
held_bytes w = length w.held.items

-- the last ones of these bytes are held, and they were counted
pub record HoldsLast {R : Type 0} (w : PlacedSource R) (bytes : List ℕ) : Type 0 where
  pub gone : List ℕ
  pub held_last : bytes ≡ gone ++ w.held.items
  pub counted : length bytes ≤ last_count → w.read ≡ length bytes

-- all of these bytes except the last ones were scanned, and the last ones are held
pub record Watches {R : Type 0} (w : PlacedSource R) (bytes : List ℕ) : Type 0 where
  pub done : List ℕ
  pub whole : bytes ≡ done ++ drop (length w.held.items - w.fresh) w.held.items
  pub passed : HavePassed w.starts done
  pub holds : HoldsLast w bytes

-- these bytes were read through this source; if an allocation failed, nothing is stated about them
abbrev pub HasWatched : {R : Type 0} → PlacedSource R → List ℕ → Type 0
HasWatched w bytes = w.is_lost ≡ false → Watches w bytes

-- The value with this number begins after `start` bytes, and `place` bytes are before this byte of it, if these numbers
-- fit into 64 bits.
pub record IsPlace (r : Rules) (bytes : List ℕ) (value at start place : ℕ) : Type 0 where
  pub begins : Begins r bytes
  pub counted : length begins.values + 1 ≡ value
  pub started : length begins.front ≤ last_count → start ≡ length begins.front
  pub placed : length begins.front + at ≤ last_count → place ≡ length begins.front + at

-- such a place; if all bytes were scanned before, a scanner has read the value up to their end
pub record FindsPlace {R : Type 0} (old new : PlacedSource R) (bytes : List ℕ) (value at : ℕ) (place : ℕ) : Type 0 where
  pub is_place : IsPlace (rules_watched old) bytes value at new.starts.start place
  pub come : old.fresh ≡ 0 → HasReadOrRefused new.starts.scanner is_place.begins.rest

-- the bytes of a value before this byte of it are among the last ones that are in memory
pub record IsHeld (held : ℕ) (bytes front : List ℕ) (at : ℕ) : Type 0 where
  pub begins : length bytes ≤ length front + held
  pub has_come : length front + at ≤ length bytes
  pub counted : length bytes ≤ last_count

-- which options accept a double
abbrev pub double_text : Version → List ℕ
double_text Two = codes "a double; use -3"
double_text Three = codes "a double; use --doubles or -3"

-- why a byte is not valid, and which option accepts it
abbrev pub cause_text : Rules → ℕ → List ℕ → Cause → List ℕ
cause_text r missing after cause.Double = double_text r.version
cause_text r missing after cause.Version = version_text (get_or after 0 0)
cause_text r missing after cause.NestedPush = codes "a push cannot be inside another value"
cause_text r missing after cause.Range = codes "the integer doesn't fit into 64 bits"
cause_text r missing after cause.Depth =
    codes "aggregates are nested deeper than --depth " ++ decimal r.limits.depth ++ codes " allows"
cause_text r missing after cause.Length =
    codes "a string or line is longer than --length " ++ decimal r.limits.length ++ codes " allows"
cause_text r missing after cause.Items =
    codes "an aggregate has more members or pairs than --items " ++ decimal r.limits.items ++ codes " allows"
cause_text r missing after cause.Total =
    codes "the value needs more bytes than --total " ++ decimal r.limits.total ++ codes " allows"
cause_text r missing after cause.Streamed = codes "a streamed string or aggregate; accepted without --no-streamed"
cause_text r missing after cause.Truncated =
    codes "the input ends inside a value; bytes missing: at least " ++ decimal missing ++ codes ""
cause_text r missing after _ = codes "a valid value cannot contain this byte here"

-- the line with the reason that the system gives for a failed read or write
abbrev pub system_reason_line : List ℕ → List ℕ
system_reason_line why = codes "  " ++ why ++ codes "\n"

-- the first line up to the place of the error
abbrev pub margin_text : ℕ → List ℕ → List ℕ
margin_text place before = codes "  at byte " ++ decimal place ++ codes " of the input: " ++ quoted_text before

-- a byte or the end of the input was refused with this cause
abbrev pub IsRefusedBy : Cause → ToolError → Type 0
IsRefusedBy c (Refused value why at) = why ≡ c
IsRefusedBy c e = ⊥

-- the grammar doesn't allow the byte
abbrev pub IsSyntax : ToolError → Type 0
IsSyntax error = IsRefusedBy cause.Syntax error

-- the bytes with which a valid value goes on were found if the grammar doesn't allow a byte after this front of a value
abbrev pub IsNextOf : Rules → ToolError → Option (List ℕ) → Option NextBytes → Type 0
IsNextOf r error (Some front) (Some next) = IsSyntax error × AreNext r front next.goes_on next.bytes.items
IsNextOf r error None (Some next) = ⊥
IsNextOf r error (Some front) None = IsSyntax error → ⊥
IsNextOf r error None None = Unit {0}

-- a hint was looked for if the grammar doesn't allow the first of these bytes after this front of a value
abbrev pub IsHintOf : ToolError → Option (List ℕ) → List ℕ → Option Hint → Type 0
IsHintOf error (Some front) after found = (IsSyntax error × IsHint front after found) ⊎ (IsSyntax error → ⊥) × (found ≡ None)
IsHintOf error None after found = found ≡ None

-- the sentence about an error in some value
abbrev pub sentence_text : Rules → ℕ → List ℕ → ToolError → List ℕ
sentence_text r missing after (Refused value c at) = cause_text r missing after c
sentence_text r missing after (OverLimits value) = codes "the canonical text of this value is over the limits"
sentence_text r missing after _ = codes "a run reads at most 1000000000 values"

-- the sentence about an error, with the bytes that are valid there if they are known
abbrev pub reason_text : Rules → ℕ → List ℕ → ToolError → Option NextBytes → List ℕ
reason_text r missing after error (Some next) = next_text next.goes_on next.bytes.items
reason_text r missing after error None = sentence_text r missing after error

-- that sentence, for what is known of the error
abbrev pub sentence_of : ErrorFacts → List ℕ
sentence_of reason = reason_text (rules_under reason.version reason.limits.now) reason.missing reason.after.now
    reason.error.now reason.next

-- The sentence about a byte of the value that begins after these bytes. For a byte that the grammar doesn't allow it
-- names just the bytes that are valid there, if the bytes of the value before it are still in memory.
pub record Says (r : Rules) (held : ℕ) (bytes front rest : List ℕ) (at missing : ℕ) (after : List ℕ)
    (error : ToolError) (sentence : List ℕ) : Type 0 where
  pub either : (sentence ≡ sentence_text r missing after error) ⊎ IsSyntax error × NamesNext r (take at rest) sentence
  pub named : IsSyntax error → IsHeld held bytes front at → NamesNext r (take at rest) sentence

-- The hint about a byte of the value that begins after these bytes. There is a hint only about a byte that the grammar
-- doesn't allow, and only if the bytes of the value before it are still in memory.
pub record Hints (held : ℕ) (bytes front rest : List ℕ) (at : ℕ) (after : List ℕ) (error : ToolError) (found : Option Hint) :
    Type 0 where
  pub either : (found ≡ None) ⊎ IsSyntax error × IsHint (take at rest) after found
  pub hinted : IsSyntax error → IsHeld held bytes front at → IsHint (take at rest) after found

-- a line that ends with the bytes from the place on, and a line with a caret and a sentence after blanks
abbrev pub place_lines : List ℕ → List ℕ → List ℕ → List ℕ → List ℕ
place_lines margin after blank sentence =
    margin ++ (quoted_text after ++ (codes "\n" ++ (blank ++ (codes "^ " ++ (sentence ++ codes "\n")))))

-- the last bytes of a text, at most this many
abbrev pub last_of : ℕ → List ℕ → List ℕ
last_of most text = drop (length text - most) text

-- The 16 bytes before a place, and the 16 bytes from it on, as far as they are among the last bytes that are in memory. If
-- the place is not among these: no bytes, and two dots.
pub record AreAround (held : ℕ) (bytes : List ℕ) (place : ℕ) (before after : List ℕ) : Type 0 where
  pub in_memory : length bytes ≤ place + held → place ≤ length bytes →
      (before ≡ last_of 16 (drop (length bytes - held) (take place bytes))) × (after ≡ take 16 (drop place bytes))
  pub elsewhere : (length bytes ≤ place + held → place ≤ length bytes → ⊥) → (before ≡ []) × (after ≡ codes "..")

-- The place of a byte of a value was written, with the bytes before and after it, below the place a caret and the
-- sentence, and then the line with the hint. As many of the bytes as `held` says are in memory. If the input ended inside
-- the value, `missing` is the least number of bytes that complete it.
pub record ExplainsAt (r options : Rules) (held : ℕ) (bytes : List ℕ) (value at : ℕ) (said said' : Option (List ℕ))
    (error : ToolError) : Type 0 where
  pub start : ℕ
  pub place : ℕ
  pub is_place : IsPlace r bytes value at start place
  pub before : List ℕ
  pub after : List ℕ
  pub are_around : length bytes ≤ last_count → AreAround held bytes place before after
  pub missing : ℕ
  pub counted : IsRefusedBy cause.Truncated error → IsViable r WithinTotal is_place.begins.rest →
      IsLeast r is_place.begins.rest missing
  pub sentence : List ℕ
  pub says : length bytes ≤ last_count →
      Says options held bytes is_place.begins.front is_place.begins.rest at missing after error sentence
  pub hint : Option Hint
  pub hints : length bytes ≤ last_count →
      Hints held bytes is_place.begins.front is_place.begins.rest at after error hint
  pub told : Appends said said' (place_lines (margin_text place before) after
      (replicate (length (margin_text place before)) 32) sentence ++ hint_line hint)

-- an error in the input was explained at its place; nothing was written if a device or an allocation had failed
abbrev pub Explains : Rules → Rules → ℕ → List ℕ → Option (List ℕ) → Option (List ℕ) → ToolError → Type 0
Explains r options held bytes said said' (Refused value c at) =
    ExplainsAt r options held bytes value at said said' (Refused value c at)
Explains r options held bytes said said' (OverLimits value) =
    ExplainsAt r options held bytes value 0 said said' (OverLimits value)
Explains r options held bytes said said' TooManyValues =
    ExplainsAt r options held bytes 1000000001 0 said said' TooManyValues
Explains r options held bytes said said' e = Appends said said' []
