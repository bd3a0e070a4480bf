-- The names of commands.
use Rattle.std.specs.Prelude.{◌≡◌, ◌≢◌, ℕ, ◌<◌, List, length, map, min, slice_index_or, take, All, AllPairs}
use Rattle.std.specs.Char.{to_ascii_lowercase}
use Rattle.resp_commands.specs.declared.command.Command.{Command}
use Rattle.resp_commands.specs.declared.table.TheConstants.{COMMANDS, SUBCOMMANDS}

-- the name of a command, without the spaces after it
abbrev pub name_of : Command → List ℕ
name_of command = take (min command.length 24) command.padded

-- the word is the command's name in upper, lower or mixed case
abbrev pub HasName : Command → List ℕ → Type 0
HasName command word = map to_ascii_lowercase word ≡ map to_ascii_lowercase (name_of command)

-- the command at this place of the table has this name
pub record IsAt (place : ℕ) (word : List ℕ) : Type 0 where
  pub command : Command
  pub within : place < length COMMANDS
  pub there : slice_index_or COMMANDS place command ≡ command
  pub named : HasName command word

-- no command of the table has this name
abbrev pub IsUnknown : List ℕ → Type 0
IsUnknown word = All (λ command. ¬ HasName command word) COMMANDS

-- this is the subcommand of the command with this name
abbrev pub IsSubcommand : Command → List ℕ → Command → Type 0
IsSubcommand command word subcommand = (subcommand.container ≡ command.container) × HasName subcommand word

-- the command has no subcommand with this name
abbrev pub LacksSubcommand : Command → List ℕ → Type 0
LacksSubcommand command word = All (λ subcommand. ¬ IsSubcommand command word subcommand) SUBCOMMANDS

abbrev pub NamesAreDistinct : Type 0
NamesAreDistinct = AllPairs (λ first second. name_of first ≢ name_of second) COMMANDS

-- no two subcommands of a command have the same name
abbrev pub SubcommandsAreDistinct : Type 0
SubcommandsAreDistinct = AllPairs (λ first second. first.container ≡ second.container → name_of first ≢ name_of second) SUBCOMMANDS

abbrev pub NamesAreInLowerCase : Type 0
NamesAreInLowerCase =
    All (λ command. map to_ascii_lowercase (name_of command) ≡ name_of command) COMMANDS ×
    All (λ command. map to_ascii_lowercase (name_of command) ≡ name_of command) SUBCOMMANDS
