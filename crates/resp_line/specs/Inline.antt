-- Commands that clients send as lines.
use Rattle.std.specs.Prelude.{◌≡◌, ◌≢◌, ℕ, ◌<◌, ◌≤◌, List, [], ◌∷◌, ◌++◌, length, take, Option, None, Some}
use Rattle.std.specs.List.{AllByRecursion}
use Rattle.bytes.specs.Filled.{Filled}
use Rattle.resp_encode.specs.Refusals.{IsFirstFault}
use Rattle.resp_encode.specs.declared.error.EncodeError.{EncodeError}
use Rattle.resp_encode.specs.declared.error.EncodeError.TheVariants as encode
use Rattle.resp_line.specs.Lines.{AreWords}
use Rattle.resp_line.specs.declared.inline.InlineCommand.{InlineCommand}
use Rattle.resp_line.specs.declared.inline.InlineError.{InlineError}
use Rattle.resp_line.specs.declared.inline.InlineError.TheVariants.{LongLine, OutOfMemory, OverLimits, Quotes}
use Rattle.resp_value.specs.Bounds.{Bounds}
use Rattle.resp_value.specs.Canonical.{canonical_text}
use Rattle.resp_value.specs.Rules.{rules_under}
use Rattle.resp_value.specs.Spellings.{IsSpelling}
use Rattle.resp_value.specs.Words.{command_of}
use Rattle.resp_value.specs.declared.version.Version.TheVariants.{Two}

-- the text begins with a byte that begins no array
abbrev pub BeginsLine : List ℕ → Type 0
BeginsLine [] = ⊥
BeginsLine (b ∷ rest) = b ≢ 42

-- the bytes are those of a line before its LF, or the first of them
pub record IsWithinLine (content : List ℕ) : Type 0 where
  pub no_end : AllByRecursion (λ b. b ≢ 10) content
  pub short : length content ≤ 65536

-- a line goes on in the piece, or begins with it
pub record GoesOn (front piece : List ℕ) : Type 0 where
  pub within : IsWithinLine front
  pub begins : BeginsLine (front ++ piece)

-- the text is a line with this content, and its LF
pub record IsLineWith (content text : List ℕ) : Type 0 where
  pub within : IsWithinLine content
  pub whole : text ≡ content ++ 10 ∷ []
  pub begins : BeginsLine text

-- the text is a line of these words, and its LF
pub record IsLineOf (words : List (List ℕ)) (text : List ℕ) : Type 0 where
  pub content : List ℕ
  pub line : IsLineWith content text
  pub are : AreWords words content

-- the array is the canonical text of the words of the line, which has words
pub record IsArrayOf (limits : Bounds) (content array : List ℕ) : Type 0 where
  pub words : List (List ℕ)
  pub some : 0 < length words
  pub are : AreWords words content
  pub canonical : array ≡ canonical_text Two (command_of words)
  pub spelled : IsSpelling (rules_under Two limits) (command_of words) array

-- the array of the words of the line, if it has words
abbrev pub HasText : Bounds → List ℕ → Option Filled → Type 0
HasText limits content None = AreWords [] content
HasText limits content (Some array) = IsArrayOf limits content array.items

-- the text is a line with this array, if it has words
pub record IsLineFor (limits : Bounds) (text : List ℕ) (array : Option Filled) : Type 0 where
  pub content : List ℕ
  pub line : IsLineWith content text
  pub has : HasText limits content array

-- the line that ends in the piece has this content before its LF
abbrev pub EndsLine : List ℕ → List ℕ → InlineCommand → Type 0
EndsLine front piece command = front ++ take command.used piece ≡ command.content.items ++ 10 ∷ []

-- a line ends in the piece, or goes on after it
abbrev pub ReadsLine : Bounds → List ℕ → List ℕ → List ℕ → Option InlineCommand → Type 0
ReadsLine limits front piece held None = (held ≡ front ++ piece) × IsWithinLine held
ReadsLine limits front piece held (Some command) =
    (held ≡ []) × IsLineFor limits (front ++ take command.used piece) command.text

-- the text begins with a line, and this is true of the bytes before its LF
pub record BeginsLineThat (text : List ℕ) (P : List ℕ → Type 0) : Type 0 where
  pub content : List ℕ
  pub rest : List ℕ
  pub whole : text ≡ content ++ 10 ∷ rest
  pub begins : BeginsLine text
  pub within : IsWithinLine content
  pub holds : P content

-- the text begins with more bytes of a line than a line may have
pub record BeginsLongLine (text : List ℕ) : Type 0 where
  pub content : List ℕ
  pub rest : List ℕ
  pub whole : text ≡ content ++ rest
  pub begins : BeginsLine text
  pub no_end : AllByRecursion (λ b. b ≢ 10) content
  pub long : 65536 < length content

-- the line has no words: a quote is not closed, or no space follows it
abbrev pub HasNoWords : List ℕ → Type 0
HasNoWords content = (words : List (List ℕ)) → AreWords words content → ⊥

-- an array of the words of the line has a fault within the limits
pub record HasFaultyWords (limits : Bounds) (content : List ℕ) : Type 0 where
  pub words : List (List ℕ)
  pub are : AreWords words content
  pub fault : EncodeError
  pub first : IsFirstFault (rules_under Two limits) (command_of words) fault
  pub real : fault ≢ encode.OutOfMemory

-- why a line with this content is no command
abbrev pub RejectsContent : Bounds → List ℕ → InlineError → Type 0
RejectsContent limits content LongLine = ⊥
RejectsContent limits content Quotes = HasNoWords content
RejectsContent limits content OverLimits = HasFaultyWords limits content
RejectsContent limits content OutOfMemory = Unit {0}

-- why the line with which the text begins is no command
abbrev pub RejectsLine : Bounds → List ℕ → InlineError → Type 0
RejectsLine limits text LongLine = BeginsLongLine text
RejectsLine limits text Quotes = BeginsLineThat text HasNoWords
RejectsLine limits text OverLimits = BeginsLineThat text (HasFaultyWords limits)
RejectsLine limits text OutOfMemory = Unit {0}
