-- What is kept of the values of a server and of the commands of a client.
use Rattle.std.specs.Prelude.{◌≡◌, ◌≢◌, ◌≤◌, ℕ, max, length, map, List, [], ◌∷◌, ◌++◌, Option, None, Some}
use Rattle.std.specs.Option.{ForSome}
use Rattle.resp_value.specs.Cuts.{cut, cut_lengths, kept_part, longer}
use Rattle.resp_value.specs.declared.cut_value.CutValue.{CutValue}
use Rattle.resp_value.specs.Data.{Datum}
use Rattle.resp_value.specs.Values.{datum_of}

-- the number of bytes of each text that are shown
abbrev pub kept_bytes : Option ℕ → ℕ
kept_bytes None = 18446744073709551615
kept_bytes (Some most) = most

-- a value with one byte more of each text than is shown, or the whole value if all bytes are
abbrev pub cut_within : Option ℕ → Datum → Datum
cut_within None x = x
cut_within (Some most) x = cut most x

-- the lengths of the texts that have more bytes than are shown
abbrev pub lengths_within : Option ℕ → Datum → List ℕ
lengths_within None x = []
lengths_within (Some most) x = cut_lengths most x

-- this is kept of a value
pub record IsKeptOf (most : Option ℕ) (whole : Datum) (kept : CutValue) : Type 0 where
  pub value : datum_of kept.value ≡ cut_within most whole
  pub lengths : kept.lengths.items ≡ lengths_within most whole

-- ---- commands

-- a word with one byte more than this, or the whole word
abbrev pub word_within : Option ℕ → List ℕ → List ℕ
word_within None word = word
word_within (Some most) word = kept_part most word

-- the length of a word that has more bytes than this
abbrev pub length_within : Option ℕ → ℕ → List ℕ
length_within None count = []
length_within (Some most) count = longer most count

-- the first bytes of each word
abbrev pub words_within : Option ℕ → List (List ℕ) → List (List ℕ)
words_within most words = map (word_within most) words

-- the lengths of the longer words, in the order of the words
abbrev pub word_lengths : Option ℕ → List (List ℕ) → List ℕ
word_lengths most [] = []
word_lengths most (word ∷ words) = length_within most (length word) ++ word_lengths most words

-- Enough is kept of each word if so many bytes are shown: the whole word, or at least the bytes that are shown, and 64. A
-- tap compares words with texts of at most 24 bytes, and prints at most 64 bytes of a name.
abbrev pub IsEnough : Option ℕ → Option ℕ → Type 0
IsEnough shown most = ForSome most (λ kept. (64 ≤ kept) × (shown ≢ None) × ForSome shown (λ bytes. bytes ≤ kept))

-- this is kept of the words of a command
pub record AreKeptOf (shown most : Option ℕ) (whole words : List (List ℕ)) (lengths : List ℕ) : Type 0 where
  pub enough : IsEnough shown most
  pub first_bytes : words ≡ words_within most whole
  pub longer : lengths ≡ word_lengths most whole

-- the bytes that are kept of each word if so many are shown, and at least so many
abbrev pub kept_for : ℕ → Option ℕ → Option ℕ
kept_for least None = None
kept_for least (Some shown) = Some (max shown (max least 64))
