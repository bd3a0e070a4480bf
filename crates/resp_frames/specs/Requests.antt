-- Commands of clients, and arrays of no words.
use Rattle.std.specs.Prelude.{◌≡◌, ◌⊎◌, ℕ, ◌<◌, ◌≤◌, List, ◌++◌, length, take, codes}
use Rattle.resp_value.specs.Bounds.{Bounds}
use Rattle.resp_value.specs.Rules.{Rules}
use Rattle.resp_scan.specs.Reading.{IsSpelled}
use Rattle.resp_frames.specs.declared.words.Request.{Request}
use Rattle.resp_frames.specs.declared.words.Request.TheVariants.{Command, Empty}
use Rattle.resp_frames.specs.Commands.{IsCommand, IsFrameOfWords}
use Rattle.resp_frames.specs.Texts.{used_of}

-- an array of no words, or null
abbrev pub IsEmptyArray : List ℕ → Type 0
IsEmptyArray text = (text ≡ codes "*0\r\n") ⊎ (text ≡ codes "*-1\r\n")

-- the number of bytes of the piece that belong to the value
abbrev pub request_used : Request → ℕ
request_used (Command found) = used_of found.frame
request_used (Empty used) = used

-- these bytes and the first of the piece, at least one, are an array of no words, or null
pub record EndsEmpty (front piece : List ℕ) (used : ℕ) : Type 0 where
  pub within : used ≤ length piece
  pub some : 0 < used
  pub empty : IsEmptyArray (front ++ take used piece)

-- these bytes and the first of the piece are this command, or an array of no words or null
abbrev pub IsRequest : Bounds → List ℕ → List ℕ → Request → Type 0
IsRequest limits front piece (Command found) = IsFrameOfWords limits front piece found
IsRequest limits front piece (Empty used) = EndsEmpty front piece used

-- if the value is an array of no words or null
abbrev pub IfEmpty : (ℕ → Type 0) → Request → Type 0
IfEmpty P (Command found) = Unit {0}
IfEmpty P (Empty used) = P used

-- the bytes and the first of the piece are a spelling of a value that is no command, no array of no words and not null
pub record EndsNoRequest (rules : Rules) (limits : Bounds) (front piece : List ℕ) : Type 0 where
  pub used : ℕ
  pub spelled : IsSpelled rules (front ++ take used piece)
  pub other : IsCommand limits (front ++ take used piece) → ⊥
  pub some : IsEmptyArray (front ++ take used piece) → ⊥
