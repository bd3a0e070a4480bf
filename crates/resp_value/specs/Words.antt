-- The words of a command, and the value that is sent for them.
use Rattle.std.specs.Prelude.{ℕ, List, map, Vec}
use Rattle.std.proofs.Common.{Global}
use Rattle.resp_value.specs.Data.{Datum, scalar, aggregate, data_of_list}
use Rattle.resp_value.specs.Data as d

-- the bytes of each word
abbrev pub texts_of : List (Vec ℕ Global) → List (List ℕ)
texts_of words = map (λ word. word.items) words

-- a word as a bulk string
abbrev pub word_datum : List ℕ → Datum
word_datum word = scalar (d.Bulk word)

-- an array of these words, each as a bulk string
abbrev pub command_of : List (List ℕ) → Datum
command_of words = aggregate d.Array (data_of_list (map word_datum words))
