-- The words of a command in memory, as lists of bytes.
use Rattle.std.specs.Prelude.{ℕ, List}
use Rattle.resp_value.specs.Words.{texts_of}
use Rattle.resp_value.specs.declared.command.Command.{Command}

-- the bytes of each word of a command, its name first
abbrev pub words_of : Command → List (List ℕ)
words_of command = texts_of command.words.items
