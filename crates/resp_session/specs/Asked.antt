-- The request of a value in memory, in the terms of commands.
use Rattle.std.specs.Prelude.{ℕ, List, Some}
use Rattle.resp_session.specs.Commands.{Meaning, array_meaning}
use Rattle.resp_session.specs.Commands as spec
use Rattle.resp_session.specs.declared.words.Requested.{Requested}
use Rattle.resp_session.specs.declared.words.Requested.TheVariants.{Command, Nothing, NoCommand}

-- the meaning of a request
abbrev pub meaning_in : Requested → Meaning
meaning_in (Command words) = array_meaning (Some words)
meaning_in Nothing = spec.Nothing
meaning_in NoCommand = spec.NoCommand

-- this holds of the words if the request is a command
abbrev pub IfCommand : Requested → (List (List ℕ) → Type 0) → Type 0
IfCommand (Command words) P = P words
IfCommand _ P = Unit {0}
