-- Which commands have a key that a glob matches.
use Rattle.std.specs.Prelude.{◌≡◌, ◌⊎◌, ◌<◌, ◌||◌, ℕ, Bool, false, true, Option, List, [], ◌∷◌, codes, drop, length, slice_index_or, MatchOption}
use Rattle.std.specs.Borrow.{Bor}
use Rattle.resp_commands.specs.Keys.{IsKey}
use Rattle.resp_commands.specs.Rows.{HasNoRow, HasRow}
use Rattle.resp_commands.specs.declared.command.Command.{Command}
use Rattle.resp_commands.specs.declared.command.Keys.{Keys}
use Rattle.resp_commands.specs.Globs.{Matches}
use Rattle.resp_session.specs.Operations.{is_name}

-- the name of a command with these words
abbrev pub name_in : List (List ℕ) → List ℕ
name_in [] = []
name_in (name ∷ arguments) = name

-- the word after the name of a command, if there is one
abbrev pub IsFirstArgument : List (List ℕ) → Option (Bor (List ℕ)) → Type 0
IsFirstArgument words first =
    MatchOption first (length words < 2) (λ word. (1 < length words) × (word.now ≡ slice_index_or words 1 []))

-- a command of this name has channels in the places where its row has keys
abbrev pub has_channels : List ℕ → Bool
has_channels name =
    is_name (codes "ssubscribe") name || is_name (codes "sunsubscribe") name || is_name (codes "spublish") name

-- the glob matches the key, as with KEYS: the empty key is matched only by globs of at most one byte, `*` and the empty one
pub record IsLike (glob key : List ℕ) : Type 0 where
  pub short : key ≡ [] → length glob < 2
  pub matches : Matches glob key

-- the glob matches one of the words that are keys by this row
pub record HasKeyLike (glob : List ℕ) (words : List (List ℕ)) (keys : Keys) : Type 0 where
  pub place : ℕ
  pub within : place < length words
  pub key : IsKey keys (drop 1 words) place
  pub like : IsLike glob (slice_index_or words place [])

-- the glob matches one of the keys of a command with these words
pub record IsKeyed (glob : List ℕ) (words : List (List ℕ)) : Type 0 where
  pub first : Option (Bor (List ℕ))
  pub is_first : IsFirstArgument words first
  pub row : Command
  pub has : HasRow (name_in words) first row
  pub no_channels : has_channels (name_in words) ≡ false
  pub like : HasKeyLike glob words row.keys

-- the glob matches none of the words that are keys by a row of the command
pub record LacksKeyLike (glob : List ℕ) (words : List (List ℕ)) (first : Option (Bor (List ℕ))) : Type 0 where
  pub row : Command
  pub has : HasRow (name_in words) first row
  pub unlike : HasKeyLike glob words row.keys → ⊥

-- the glob matches none of the keys of a command with these words; a command that the table does not have has no keys, and
-- channels are no keys
pub record IsUnkeyed (glob : List ℕ) (words : List (List ℕ)) : Type 0 where
  pub first : Option (Bor (List ℕ))
  pub is_first : IsFirstArgument words first
  pub none : HasNoRow (name_in words) first ⊎ (LacksKeyLike glob words first ⊎ (has_channels (name_in words) ≡ true))
