-- The words of a command as bytes, wherever they are stored.
use Rattle.std.specs.Prelude.{ℕ, List, drop}
use Rattle.resp_server.specs.declared.words.Words.{Words}
use Rattle.resp_server.specs.declared.words.Words.TheVariants as words

-- the words that were not taken yet
abbrev pub words_left : Words → List (List ℕ)
words_left (words.Lent left) = left
words_left (words.Read all taken) = drop taken all.now
