-- Commands of clients.
use Rattle.std.specs.Prelude.{◌≡◌, ℕ, ◌<◌, ◌≤◌, List, ◌∷◌, ◌++◌, length, take, MatchOption}
use Rattle.resp_value.specs.Bounds.{Bounds}
use Rattle.resp_value.specs.Rules.{Rules, rules_under}
use Rattle.resp_value.specs.Spellings.{IsSpelling}
use Rattle.resp_value.specs.Words.{command_of}
use Rattle.resp_value.specs.declared.version.Version.TheVariants.{Two}
use Rattle.resp_commands.specs.Classes.{HasClass, HasNoClass}
use Rattle.resp_commands.specs.Names.{IsAt, IsUnknown}
use Rattle.resp_scan.specs.Reading.{IsSpelled}
use Rattle.resp_frames.specs.declared.frame.Frame.{Frame}
use Rattle.resp_frames.specs.declared.words.CommandFrame.{CommandFrame}
use Rattle.resp_frames.specs.declared.words.CommandWords.{CommandWords}
use Rattle.resp_frames.specs.Texts.{text_of, used_of}

-- the text is a spelling of an array of these words, each a bulk string
pub record IsCommand (limits : Bounds) (text : List ℕ) : Type 0 where
  pub name : List ℕ
  pub arguments : List (List ℕ)
  pub spelled : IsSpelling (rules_under Two limits) (command_of (name ∷ arguments)) text

-- the frame is a command: these bytes and the first of the piece, at least one
pub record IsCommandFrame (limits : Bounds) (front piece : List ℕ) (frame : Frame) : Type 0 where
  pub text : text_of frame ≡ front ++ take (used_of frame) piece
  pub within : used_of frame ≤ length piece
  pub some : 0 < used_of frame
  pub command : IsCommand limits (text_of frame)

-- the number and the class of these words, and the place in the table of the command of this name
pub record HasWords (name : List ℕ) (arguments : List (List ℕ)) (words : CommandWords) : Type 0 where
  pub count : words.arguments ≡ length arguments
  pub class : MatchOption words.class (HasNoClass name arguments) (λ class. HasClass name arguments class)
  pub place : MatchOption words.place (IsUnknown name) (λ place. IsAt place name)

-- the text is a spelling of an array of words, each a bulk string, with this number and class
pub record TellsWords (limits : Bounds) (text : List ℕ) (words : CommandWords) : Type 0 where
  pub name : List ℕ
  pub arguments : List (List ℕ)
  pub spelled : IsSpelling (rules_under Two limits) (command_of (name ∷ arguments)) text
  pub has : HasWords name arguments words

-- the frame is a command, these bytes and the first of the piece, and its words have this number and class
pub record IsFrameOfWords (limits : Bounds) (front piece : List ℕ) (found : CommandFrame) : Type 0 where
  pub frame : IsCommandFrame limits front piece found.frame
  pub words : TellsWords limits (text_of found.frame) found.words

-- the bytes and the first of the piece are a spelling of a value that is no command
pub record EndsOther (rules : Rules) (limits : Bounds) (front piece : List ℕ) : Type 0 where
  pub used : ℕ
  pub spelled : IsSpelled rules (front ++ take used piece)
  pub other : IsCommand limits (front ++ take used piece) → ⊥
