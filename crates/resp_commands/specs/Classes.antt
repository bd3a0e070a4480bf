-- The class of a whole command.
use Rattle.std.specs.Prelude.{◌≡◌, ℕ, ◌==◌, false, List, [], ◌∷◌, All, Contains}
use Rattle.std.specs.Bool.{MatchBool}
use Rattle.resp_commands.specs.declared.command.Class.{Class}
use Rattle.resp_commands.specs.declared.command.Class.TheVariants as class
use Rattle.resp_commands.specs.declared.command.Command.{Command}
use Rattle.resp_commands.specs.declared.table.TheConstants.{COMMANDS, SUBCOMMANDS}
use Rattle.resp_commands.specs.Names.{HasName, IsSubcommand, LacksSubcommand}
use Rattle.resp_commands.specs.Options.{Blocks}

-- the command has subcommands, or is one
abbrev pub HasSubcommands : Command → Type 0
HasSubcommands command = (command.container == 0) ≡ false

-- the class of a subcommand of the command
pub record HasSubclass (command : Command) (word : List ℕ) (c : Class) : Type 0 where
  pub subcommand : Command
  pub found : Contains SUBCOMMANDS subcommand
  pub named : IsSubcommand command word subcommand
  pub same : c ≡ subcommand.class

-- the class of a command that may have subcommands
abbrev pub HasClassByWord : Command → List (List ℕ) → Class → Type 0
HasClassByWord command [] c = c ≡ command.class
HasClassByWord command (word ∷ words) c = MatchBool (command.container == 0) (c ≡ command.class) (HasSubclass command word c)

-- the class of a command that waits only with BLOCK
pub record HasClassByBlock (command : Command) (arguments : List (List ℕ)) (c : Class) : Type 0 where
  pub with_block : Blocks arguments → c ≡ command.class
  pub without_block : (Blocks arguments → ⊥) → c ≡ class.Shared

-- the class of a command with this row and these words after its name
abbrev pub IsClassOf : Command → List (List ℕ) → Class → Type 0
IsClassOf command arguments c =
    MatchBool command.may_block (HasClassByBlock command arguments c) (HasClassByWord command arguments c)

-- the class of a command with this name
pub record HasClass (name : List ℕ) (arguments : List (List ℕ)) (c : Class) : Type 0 where
  pub command : Command
  pub found : Contains COMMANDS command
  pub named : HasName command name
  pub by_arguments : IsClassOf command arguments c

-- the word after the name is no subcommand of a command that has subcommands
abbrev pub LacksArgument : Command → List (List ℕ) → Type 0
LacksArgument command [] = ⊥
LacksArgument command (word ∷ words) =
    (command.may_block ≡ false) × ((command.container == 0) ≡ false) × LacksSubcommand command word

-- each command with this name has subcommands, but none with the word after the name
abbrev pub HasNoClass : List ℕ → List (List ℕ) → Type 0
HasNoClass name arguments = All (λ command. HasName command name → LacksArgument command arguments) COMMANDS
