-- Which bytes of a client are commands, and which commands are sent to the server.
use Rattle.std.specs.Prelude.{◌≡◌, ◌⊎◌, ℕ, Bool, true, List, [], ◌∷◌, ◌++◌, map, Contains}
use Rattle.std.specs.Char.{to_ascii_lowercase}
use Rattle.resp_commands.specs.Classes.{HasClass}
use Rattle.resp_commands.specs.declared.command.Class.TheVariants as class
use Rattle.resp_commands.specs.Names.{IsUnknown}
use Rattle.resp_frames.specs.Requests.{IsEmptyArray}
use Rattle.resp_line.specs.Inline.{IsLineOf}
use Rattle.resp_value.specs.Canonical.{canonical_text}
use Rattle.resp_value.specs.Rules.{Rules, rules_under}
use Rattle.resp_value.specs.Spellings.{IsSpelling}
use Rattle.resp_value.specs.Words.{command_of}
use Rattle.resp_value.specs.declared.version.Version.TheVariants.{Two}

pub record Terms : Type 0 where
  -- the rules of arrays
  pub rules : Rules
  -- whether a line is a command too
  pub lines : Bool
  -- the names of commands that are sent although the table does not have them
  pub admitted : List (List ℕ)
  -- whether the proxy itself replies to PING
  pub pings : Bool
  -- whether a client may get a connection of its own
  pub own : Bool

-- a command of this name is admitted too
abbrev pub with_admitted : List ℕ → Terms → Terms
with_admitted name t = record t { admitted = t.admitted ++ name ∷ [] }

-- a client may get a connection of its own, or not
abbrev pub with_own : Bool → Terms → Terms
with_own own t = record t { own = own }

-- the name is one of these, in upper, lower or mixed case
pub record IsAmong (names : List (List ℕ)) (name : List ℕ) : Type 0 where
  pub other : List ℕ
  pub there : Contains names other
  pub same : map to_ascii_lowercase other ≡ map to_ascii_lowercase name

-- the table has no command of this name, which is admitted
pub record IsAdmitted (terms : Terms) (name : List ℕ) : Type 0 where
  pub unknown : IsUnknown name
  pub among : IsAmong terms.admitted name

-- a command of these words is sent
abbrev pub MayBeSent : Terms → List ℕ → List (List ℕ) → Type 0
MayBeSent terms name arguments = HasClass name arguments class.Shared ⊎ IsAdmitted terms name

-- The text is a command of these words, an array or a line. These bytes are sent for it: those of the array, or the words of
-- the line as an array.
pub record IsRequestOf (terms : Terms) (text sent : List ℕ) (words : List (List ℕ)) : Type 0 where
  pub spelled : IsSpelling (rules_under Two terms.rules.limits) (command_of words) sent
  pub form : (text ≡ sent) ⊎ ((terms.lines ≡ true) × IsLineOf words text × (sent ≡ canonical_text Two (command_of words)))

-- the text is an array of no words, null, or a line of no words
abbrev pub IsNoRequest : Terms → List ℕ → Type 0
IsNoRequest terms text = IsEmptyArray text ⊎ ((terms.lines ≡ true) × IsLineOf [] text)
