-- The first bytes of commands, up to the end of their names.
use Rattle.std.specs.Prelude.{◌≡◌, ◌⊎◌, ℕ, ◌+◌, ◌≤◌, List, [], ◌∷◌, ◌++◌, length, take, drop, true, All}
use Rattle.std.specs.Str.{byte}
use Rattle.resp_commands.specs.Classes.{HasClass, HasSubcommands}
use Rattle.resp_commands.specs.Names.{HasName, IsAt}
use Rattle.resp_commands.specs.declared.command.Class.{Class}
use Rattle.resp_commands.specs.declared.table.TheConstants.{COMMANDS}
use Rattle.resp_value.specs.Bytes.{crlf}
use Rattle.resp_value.specs.Numbers.{IsNumber}

-- these are the head of an array and its first word, the name, which this many words follow
pub record IsHead (bytes : List ℕ) (arguments : ℕ) (name : List ℕ) : Type 0 where
  pub count : List ℕ
  pub size : List ℕ
  pub counted : IsNumber (arguments + 1) count
  pub sized : IsNumber (length name) size
  pub whole : bytes ≡ (byte "*" ∷ count) ++ crlf ((byte "$" ∷ size) ++ crlf (name ++ crlf []))

-- these are the head of an array and a name, and each command of this name has this class and this place in the table
pub record IsKnownHead (bytes : List ℕ) (arguments : ℕ) (c : Class) (place : ℕ) : Type 0 where
  pub name : List ℕ
  pub head : IsHead bytes arguments name
  pub class : (others : List (List ℕ)) → HasClass name others c
  pub at : IsAt place name

-- a command of this name is not in the table, or the words after the name decide its class
abbrev pub IsDecidedByWords : List ℕ → Type 0
IsDecidedByWords name =
    All (λ command. HasName command name → (command.may_block ≡ true) ⊎ HasSubcommands command) COMMANDS

-- the piece begins with no head of few words whose name alone decides the class
abbrev pub HasNoKnownHead : List ℕ → Type 0
HasNoKnownHead piece = (n arguments : ℕ) (name : List ℕ) → 8 ≤ n → n ≤ 24 → n ≤ length piece → arguments ≤ 15 →
    IsHead (take n piece) arguments name → IsDecidedByWords name

-- the first bytes of 24 that a command begins with, its number of words, its class and its place in the table
pub record HeadBytes : Type 0 where
  pub bytes : List ℕ
  pub length : ℕ
  pub arguments : ℕ
  pub class : Class
  pub place : ℕ

-- the piece begins with these bytes
pub record BeginsWithHeadBytes (head : HeadBytes) (piece : List ℕ) : Type 0 where
  pub within : head.length ≤ length piece
  pub same : take head.length piece ≡ take head.length head.bytes

-- the piece begins with these bytes, and these follow them
pub record HasBody (head : HeadBytes) (piece body : List ℕ) : Type 0 where
  pub begins : BeginsWithHeadBytes head piece
  pub after : body ≡ drop head.length piece
