-- The requests of which the bytes of a client are made: arrays and lines.
use Rattle.std.specs.Prelude.{◌≡◌, ◌⊎◌, ℕ, List, [], ◌∷◌, map, Option, None, Some}
use Rattle.std.specs.List.{concat}
use Rattle.resp_frames.specs.Requests.{IsEmptyArray}
use Rattle.resp_line.specs.Inline.{IsLineOf}
use Rattle.resp_value.specs.Bounds.{Bounds}
use Rattle.resp_value.specs.Rules.{rules_under}
use Rattle.resp_value.specs.Spellings.{IsSpelling}
use Rattle.resp_value.specs.Words.{command_of}
use Rattle.resp_value.specs.declared.version.Version.TheVariants.{Two}
use Rattle.resp_server.specs.Deeds.{Asked, Asks}

-- a part of a client's bytes, and what it asks for, if it is a command
pub record Part : Type 0 where
  pub text : List ℕ
  pub asked : Option Asked

-- the bytes of these parts
abbrev pub texts_in : List Part → List ℕ
texts_in parts = concat (map (λ (part : Part). part.text) parts)

-- The text is a command of these words: an array, or a line. An array of them is within the limits.
pub record IsCommandOf (limits : Bounds) (words : List (List ℕ)) (text : List ℕ) : Type 0 where
  pub array : List ℕ
  pub spelled : IsSpelling (rules_under Two limits) (command_of words) array
  pub form : (text ≡ array) ⊎ IsLineOf words text

-- the text is a command that asks for this
pub record IsAsking (limits : Bounds) (asked : Asked) (text : List ℕ) : Type 0 where
  pub name : List ℕ
  pub arguments : List (List ℕ)
  pub command : IsCommandOf limits (name ∷ arguments) text
  pub asks : Asks name arguments asked

-- the text is an array of no words, null, or a line of no words; or it is a command that asks for this
abbrev pub IsRequestFor : Bounds → Option Asked → List ℕ → Type 0
IsRequestFor limits None text = IsEmptyArray text ⊎ IsLineOf [] text
IsRequestFor limits (Some asked) text = IsAsking limits asked text

abbrev pub IsPart : Bounds → Part → Type 0
IsPart limits part = IsRequestFor limits part.asked part.text
