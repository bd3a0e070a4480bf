-- Why a client is closed.
use Rattle.std.specs.Prelude.{◌≡◌, ◌≢◌, ◌⊎◌, ℕ, true, false, List, [], ◌∷◌, ◌++◌, Option, None, Contains, MatchOption, codes, map}
use Rattle.std.specs.Borrow.{Bor}
use Rattle.std.specs.Char.{to_ascii_lowercase}
use Rattle.resp_commands.specs.Classes.{HasSubcommands}
use Rattle.resp_commands.specs.Names.{HasName, LacksSubcommand, name_of}
use Rattle.resp_commands.specs.declared.command.Command.{Command}
use Rattle.resp_commands.specs.declared.table.TheConstants.{COMMANDS}
use Rattle.resp_frames.specs.declared.error.FrameError.TheVariants as frame
use Rattle.resp_frames.specs.Framing.{RejectsByte}
use Rattle.resp_frames.specs.Keys.{IsFirst}
use Rattle.resp_frames.specs.Requests.{EndsNoRequest}
use Rattle.resp_line.specs.Inline.{BeginsLineThat, BeginsLongLine, HasFaultyWords, HasNoWords}
use Rattle.resp_proxy.specs.Leaving.{NeedsOwn}
use Rattle.resp_proxy.specs.declared.error.ClientError.{ClientError}
use Rattle.resp_proxy.specs.declared.error.ClientError.TheVariants as error
use Rattle.resp_proxy.specs.declared.error.CommandName.{CommandName}
use Rattle.resp_proxy.specs.Terms.{IsRequestOf, Terms}

-- the same letters, each in upper or lower case
abbrev pub SameLetters : List ℕ → List ℕ → Type 0
SameLetters name other = map to_ascii_lowercase name ≡ map to_ascii_lowercase other

-- the error names the subcommand of this word, if the command has one
abbrev pub IsNamedBy : Command → List ℕ → Option (Bor (List ℕ)) → Type 0
IsNamedBy command word shown = MatchOption shown (LacksSubcommand command word) (λ text. SameLetters word text.now)

-- the error names the subcommand of the word after the name, if there is one
abbrev pub NamesFirst : Command → Option (Bor (List ℕ)) → Option (Bor (List ℕ)) → Type 0
NamesFirst command first shown = MatchOption first (shown ≡ None) (λ word. IsNamedBy command word.now shown)

-- the error names the command with this name and this first word after it: its subcommand too, if the command has subcommands
pub record NamesCommand (name : List ℕ) (first : Option (Bor (List ℕ))) (shown : CommandName) : Type 0 where
  pub command : Command
  pub found : Contains COMMANDS command
  pub named : HasName command name
  pub same : shown.command.now ≡ name_of command
  pub with_subcommands : HasSubcommands command → NamesFirst command first shown.subcommand
  pub without_subcommands : (HasSubcommands command → ⊥) → shown.subcommand ≡ None

-- the text begins with a command of this name, an array or a line
pub record BeginsCommand (terms : Terms) (text wanted : List ℕ) : Type 0 where
  pub front : List ℕ
  pub rest : List ℕ
  pub whole : text ≡ front ++ rest
  pub sent : List ℕ
  pub name : List ℕ
  pub arguments : List (List ℕ)
  pub request : IsRequestOf terms front sent (name ∷ arguments)
  pub named : SameLetters name wanted

-- the text begins with a command, an array or a line, that may need a connection of the client's own, and the error names it
pub record BeginsCommandForOwn (terms : Terms) (text : List ℕ) (shown : CommandName) : Type 0 where
  pub front : List ℕ
  pub rest : List ℕ
  pub whole : text ≡ front ++ rest
  pub needs : NeedsOwn terms front
  pub first : Option (Bor (List ℕ))
  pub is_first : IsFirst needs.arguments first
  pub names : NamesCommand needs.name first shown

-- The bytes that came since the last command are the cause of the error. The client may also be closing or not open, or memory
-- ran out.
abbrev pub Refuses : Terms → List ℕ → ClientError → Type 0
Refuses terms text (error.Protocol (frame.Fault fault)) = RejectsByte terms.rules [] text fault
Refuses terms text (error.Protocol frame.NotACommand) = EndsNoRequest terms.rules terms.rules.limits [] text
Refuses terms text (error.Protocol frame.OutOfMemory) = Unit {0}
Refuses terms text error.Quotes = (terms.lines ≡ true) × BeginsLineThat text HasNoWords
Refuses terms text error.LongLine = (terms.lines ≡ true) × BeginsLongLine text
Refuses terms text error.OverLimits = (terms.lines ≡ true) × BeginsLineThat text (HasFaultyWords terms.rules.limits)
Refuses terms text error.Http = BeginsCommand terms text (codes "POST") ⊎ BeginsCommand terms text (codes "HOST:")
Refuses terms text error.Quit = BeginsCommand terms text (codes "QUIT")
Refuses terms text (error.NoneLeft shown) = (terms.own ≡ false) × BeginsCommandForOwn terms text shown
Refuses terms text error.Closing = Unit {0}
Refuses terms text error.NoClient = Unit {0}
Refuses terms text error.OutOfMemory = Unit {0}

-- the error is neither that the client is closing nor that it is not open
abbrev pub IsOfBytes : ClientError → Type 0
IsOfBytes e = (e ≢ error.Closing) × (e ≢ error.NoClient)
