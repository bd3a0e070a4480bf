-- The keys of a command.
use Rattle.std.specs.Prelude.{◌⊎◌, ◌≡◌, ℕ, Option, List, [], ◌∷◌, MatchOption}
use Rattle.std.specs.Borrow.{Bor}
use Rattle.resp_value.specs.Bounds.{Bounds}
use Rattle.resp_value.specs.Rules.{rules_under}
use Rattle.resp_value.specs.Spellings.{IsSpelling}
use Rattle.resp_value.specs.Words.{command_of}
use Rattle.resp_value.specs.declared.version.Version.TheVariants.{Two}
use Rattle.resp_commands.specs.declared.command.Command.{Command}
use Rattle.resp_commands.specs.KeyWords.{AreKeyWords}
use Rattle.resp_commands.specs.Keys.{TellsNoKeys}
use Rattle.resp_commands.specs.Rows.{HasNoRow, HasRow}

-- the first of the words, if there is one
abbrev pub IsFirst : List (List ℕ) → Option (Bor (List ℕ)) → Type 0
IsFirst words first = MatchOption first (words ≡ []) (λ word. (rest : List (List ℕ)) × (words ≡ word.now ∷ rest))

-- these are the keys of a command with this name, by its row, and no others
pub record HasKeys (name : List ℕ) (arguments found : List (List ℕ)) : Type 0 where
  pub first : Option (Bor (List ℕ))
  pub is_first : IsFirst arguments first
  pub row : Command
  pub has : HasRow name first row
  pub keys : AreKeyWords row.keys arguments found

-- by a row of the command with this name, the words have no number of keys
pub record HidesKeys (name : List ℕ) (first : Option (Bor (List ℕ))) (arguments : List (List ℕ)) : Type 0 where
  pub row : Command
  pub has : HasRow name first row
  pub hidden : TellsNoKeys row.keys arguments

-- there is no row of this command, or the words have no number of keys
pub record HasNoKeys (name : List ℕ) (arguments : List (List ℕ)) : Type 0 where
  pub first : Option (Bor (List ℕ))
  pub is_first : IsFirst arguments first
  pub none : HasNoRow name first ⊎ HidesKeys name first arguments

-- the text is a spelling of a command of these words
abbrev pub Spells : Bounds → List ℕ → List ℕ → List (List ℕ) → Type 0
Spells limits text name arguments = IsSpelling (rules_under Two limits) (command_of (name ∷ arguments)) text
