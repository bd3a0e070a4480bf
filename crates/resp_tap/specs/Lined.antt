-- Commands that a client sends as lines.
use Rattle.std.specs.Prelude.{◌≡◌, ◌≢◌, ◌⊎◌, ℕ, ◌+◌, ◌<◌, ◌≤◌, Bool, true, List, [], ◌∷◌, ◌++◌, length, drop, Option, None, Some}
use Rattle.std.specs.Bool.{MatchBool}
use Rattle.std.specs.List.{AllByRecursion}
use Rattle.bytes.specs.Filled.{Filled}
use Rattle.resp_line.specs.Lines.{AreWords}
use Rattle.resp_value.specs.Bounds.{Bounds}
use Rattle.resp_value.specs.Canonical.{Fits, canonical_text}
use Rattle.resp_value.specs.Spellings.{IsSpelling}
use Rattle.resp_value.specs.Words.{command_of}
use Rattle.resp_value.specs.declared.cause.Cause.{Cause}
use Rattle.resp_value.specs.declared.cause.Cause.TheVariants as causes
use Rattle.resp_value.specs.declared.version.Version.TheVariants.{Two}
use Rattle.resp_tap.specs.Kinds.{command_kind}
use Rattle.resp_tap.specs.Parts.{AreKeptOf}
use Rattle.resp_tap.specs.Taps.{TapState, tap_state, with_command, with_refused_command}
use Rattle.resp_tap.specs.Times.{KeepsTimes}
use Rattle.resp_tap.specs.Watches.{SeesFirst}
use Rattle.resp_tap.specs.Watching.{HasTakenRequest, RefusesOfRequest, WhereRequested, request_rules}
use Rattle.resp_tap.specs.declared.lines.Lines.{Lines}
use Rattle.resp_tap.specs.declared.moment.Moment.{Moment}
use Rattle.resp_tap.specs.declared.seen.Place.{Place}
use Rattle.resp_tap.specs.declared.seen.Place.TheVariants as place
use Rattle.resp_tap.specs.declared.seen.Seen.{Seen}
use Rattle.resp_tap.specs.declared.seen.Seen.TheVariants as seen
use Rattle.resp_tap.specs.declared.tap.Tap.{Tap}
use Rattle.resp_tap.specs.declared.watch.Side.{Side}
use Rattle.resp_tap.specs.declared.watch.Side.TheVariants.{Client}

-- ---- which bytes belong to a line

-- the bytes begin no array
abbrev pub BeginsLine : List ℕ → Type 0
BeginsLine [] = ⊥
BeginsLine (byte ∷ rest) = byte ≢ 42

-- The next bytes of the client belong to a line: a line has begun, or no array has begun and the next byte begins none.
pub record IsInLine (lines : Lines) (t : Tap) (piece : List ℕ) : Type 0 where
  pub on : lines.are_read ≡ true
  pub reads : (tap_state t).reads_commands ≡ true
  pub begins : (0 < length lines.held.items) ⊎ (WhereRequested t (λ front. front ≡ []) × BeginsLine piece)

-- they belong to no line
abbrev pub IsNoLine : Lines → Tap → List ℕ → Type 0
IsNoLine lines t piece = lines.are_read ≡ true → (tap_state t).reads_commands ≡ true →
    (lines.held.items ≡ []) × WhereRequested t (λ front. front ≡ [] → BeginsLine piece → ⊥)

-- ---- the content of a line

-- the array of the words of a line, if it has words
abbrev pub IsTextOf : Bounds → List ℕ → Option Filled → Type 0
IsTextOf limits line None = AreWords [] line
IsTextOf limits line (Some text) = (words : List (List ℕ)) × (0 < length words) × AreWords words line ×
    (text.items ≡ canonical_text Two (command_of words)) × IsSpelling (request_rules limits) (command_of words) text.items

-- Why a line is refused that has come up to its LF: memory is out; it has no words, because of a quote; or an array of its
-- words exceeds a limit.
abbrev pub WhyRejected : Bounds → List ℕ → Cause → Type 0
WhyRejected limits line cause = (cause ≡ causes.OutOfMemory) ⊎
    ((cause ≡ causes.Syntax) × ((words : List (List ℕ)) → AreWords words line → ⊥)) ⊎
    ((words : List (List ℕ)) × AreWords words line × (Fits (request_rules limits) (command_of words) → ⊥))

-- Why a line is refused: its text, up to its LF if that has come, is too long; it is rejected; or an array of its words is
-- refused.
abbrev pub WhyRefused : TapState → List ℕ → Cause → ℕ → Type 0
WhyRefused s line cause at = ((cause ≡ causes.Length) × (65536 < length line)) ⊎ WhyRejected s.limits line cause ⊎
    ((words : List (List ℕ)) × (used : ℕ) × AreWords words line ×
    RefusesOfRequest s [] (canonical_text Two (command_of words)) used cause at)

-- a line is refused, as the next command
pub record RefusesLine (line : List ℕ) (old new : Tap) (cause : Cause) (at : ℕ) (where' : Place) : Type 0 where
  pub why : WhyRefused (tap_state old) line cause at
  pub place : where' ≡ place.Command ((tap_state old).commands + 1)
  pub after : tap_state new ≡ with_refused_command (tap_state old)

-- the words of a line are the next command, of which this is kept
pub record GivesLine (now : Option Moment) (line : List ℕ) (old new : Tap) (number : ℕ) (words : List (List ℕ))
    (lengths : List ℕ) : Type 0 where
  pub whole : List (List ℕ)
  pub some : 0 < length whole
  pub are : AreWords whole line
  pub are_kept : AreKeptOf (tap_state old).shown (tap_state old).kept whole words lengths
  pub numbered : number ≡ (tap_state old).commands + 1
  pub after : tap_state new ≡ with_command (command_kind whole) (tap_state old)
  pub takes : HasTakenRequest new []
  pub times : KeepsTimes now old new

-- what is told at the end of a line
abbrev pub EndsSo : Option Moment → List ℕ → Tap → Tap → Seen → Type 0
EndsSo now line old new seen.Passed = AreWords [] line × (new ≡ old)
EndsSo now line old new (seen.Command number words lengths) = GivesLine now line old new number words lengths.items
EndsSo now line old new (seen.Refused cause at where') = RefusesLine line old new cause at where'
EndsSo now line old new _ = ⊥

-- ---- the bytes of a line

-- the whole piece belongs to a line that does not end in it
pub record HoldsLine (lines lines' : Lines) (old new : Tap) (piece : List ℕ) (used : ℕ) : Type 0 where
  pub whole_piece : used ≡ length piece
  pub no_end : AllByRecursion (λ b. b ≢ 10) piece
  pub held : lines'.held.items ≡ lines.held.items ++ piece
  pub short : length lines'.held.items ≤ 65536
  pub same : new ≡ old

-- A line ends in the piece, and this is told of it; or it is refused in the piece.
pub record EndsLine (now : Option Moment) (lines lines' : Lines) (old new : Tap) (piece : List ℕ) (used : ℕ) (what : Seen) :
    Type 0 where
  pub last : List ℕ
  pub rest : List ℕ
  pub begins : piece ≡ last ++ rest
  pub no_end : AllByRecursion (λ b. b ≢ 10) last
  pub told : EndsSo now (lines.held.items ++ last) old new what
  pub read : (tap_state new).reads_commands ≡ true →
      (rest ≡ 10 ∷ drop used piece) × (used ≡ length last + 1) × (lines'.held.items ≡ [])

-- the result for bytes of a line
abbrev pub TellsLine : Option Moment → Lines → Lines → Tap → Tap → List ℕ → ℕ → Seen → Type 0
TellsLine now lines lines' old new piece used seen.Nothing = HoldsLine lines lines' old new piece used
TellsLine now lines lines' old new piece used what = EndsLine now lines lines' old new piece used what

-- The bytes belong to a line. Before it the tap has read no part of an array.
pub record SeesLine (now : Option Moment) (side : Side) (lines lines' : Lines) (old new : Tap) (piece : List ℕ) (used : ℕ)
    (what : Seen) : Type 0 where
  pub client : side ≡ Client
  pub belong : IsInLine lines old piece
  pub told : HasTakenRequest old [] → TellsLine now lines lines' old new piece used what

-- the bytes belong to no line
pub record SeesNoLine (now : Option Moment) (side : Side) (lines lines' : Lines) (old new : Tap) (piece : List ℕ)
    (used : ℕ) (what : Seen) : Type 0 where
  pub first : SeesFirst side now old new piece used what
  pub same_lines : lines' ≡ lines
  pub no_line : side ≡ Client → IsNoLine lines old piece

-- the first result in a piece, and whether it is that of a line
abbrev pub SeesLined : Option Moment → Side → Lines → Lines → Tap → Tap → List ℕ → ℕ → Seen → Bool → Type 0
SeesLined now side lines lines' old new piece used what is_line =
    MatchBool is_line (SeesLine now side lines lines' old new piece used what)
    (SeesNoLine now side lines lines' old new piece used what)
