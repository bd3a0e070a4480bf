use Rattle.std.proofs.Common.{◌≡◌, ◌++◌, drop}
use Rattle.resp_value.specs.Words.{texts_of}
use Rattle.resp_value.specs.Commands.{words_of}
use Rattle.resp_value.proofs.command.Command.try_clone.Given as goal

abbrev pub invariant-loop-word : goal.invariant-loop-word
invariant-loop-word l = texts_of l.words.items ++ texts_of (drop l.word-index l.word-items) ≡ words_of l.self
