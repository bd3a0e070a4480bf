-- The row of a whole command.
use Rattle.std.specs.Prelude.{◌≡◌, ℕ, ◌==◌, false, Option, List, All, Contains, MatchOption}
use Rattle.std.specs.Bool.{MatchBool}
use Rattle.std.specs.Borrow.{Bor}
use Rattle.resp_commands.specs.declared.command.Command.{Command}
use Rattle.resp_commands.specs.declared.table.TheConstants.{COMMANDS, SUBCOMMANDS}
use Rattle.resp_commands.specs.Names.{HasName, IsSubcommand, LacksSubcommand}

-- the row of the command, or of its subcommand that is the word after the name
abbrev pub IsRowOf : Command → Option (Bor (List ℕ)) → Command → Type 0
IsRowOf command first row = MatchOption first (row ≡ command) (λ word.
    MatchBool (command.container == 0) (row ≡ command) (Contains SUBCOMMANDS row × IsSubcommand command word.now row))

-- a row of a command with this name
pub record HasRow (name : List ℕ) (first : Option (Bor (List ℕ))) (row : Command) : Type 0 where
  pub command : Command
  pub found : Contains COMMANDS command
  pub named : HasName command name
  pub by_word : IsRowOf command first row

-- the word after the name is no subcommand of a command that has subcommands
abbrev pub LacksRow : Command → Option (Bor (List ℕ)) → Type 0
LacksRow command first = MatchOption first ⊥ (λ word.
    ((command.container == 0) ≡ false) × LacksSubcommand command word.now)

-- each command with this name has subcommands, but none with the word after the name
abbrev pub HasNoRow : List ℕ → Option (Bor (List ℕ)) → Type 0
HasNoRow name first = All (λ command. HasName command name → LacksRow command first) COMMANDS
