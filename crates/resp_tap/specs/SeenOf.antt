-- The results that a tap reports, and what is kept in them.
use Rattle.std.specs.Prelude.{◌≡◌, ⊤, ℕ, false, List, [], ◌∷◌, Option, None, Some}
use Rattle.resp_value.specs.declared.cut_value.CutValue.{CutValue}
use Rattle.resp_value.specs.Data.{Datum}
use Rattle.resp_value.specs.Values.{datum_of}
use Rattle.resp_value.specs.declared.value.Value.TheVariants as value
use Rattle.resp_session.specs.Commands.{Call, Meaning, meaning_of}
use Rattle.resp_session.specs.Heard.{is_push}
use Rattle.resp_tap.specs.Parts.{AreKeptOf, IsKeptOf}
use Rattle.resp_tap.specs.declared.seen.Seen.{Seen}
use Rattle.resp_tap.specs.declared.seen.Seen.TheVariants as seen

-- What is kept of a value is reported as the reply to the command with this number. Without a number it is reported as a
-- push or as a value.
abbrev pub ToldAs : Option ℕ → CutValue → Seen → Type 0
ToldAs number kept (seen.Reply other told) = (told ≡ kept) × (number ≡ Some other) × (is_push (datum_of kept.value) ≡ false)
ToldAs number kept (seen.Push members lengths) =
    (record { value = value.Push members; lengths = lengths } ≡ kept) × (number ≡ None)
ToldAs number kept (seen.Value told) = (told ≡ kept) × (is_push (datum_of kept.value) ≡ false) × (number ≡ None)
ToldAs number kept _ = ⊥

-- the words of a value that is a command
abbrev pub words_by : Meaning → List (List ℕ)
words_by (Call name arguments) = name ∷ arguments
words_by _ = []

abbrev pub words_in : Datum → List (List ℕ)
words_in x = words_by (meaning_of x)

-- A result of either side has what is kept of this value, if so many bytes of each text are shown, and so many are kept of
-- each word.
abbrev pub IsKeptIn : Option ℕ → Option ℕ → Datum → Seen → Type 0
IsKeptIn shown most whole (seen.Command number words lengths) = AreKeptOf shown most (words_in whole) words lengths.items
IsKeptIn shown most whole (seen.Reply number kept) = IsKeptOf shown whole kept
IsKeptIn shown most whole (seen.Push members lengths) =
    IsKeptOf shown whole (record { value = value.Push members; lengths = lengths })
IsKeptIn shown most whole (seen.Value kept) = IsKeptOf shown whole kept
IsKeptIn shown most whole _ = ⊤

-- a result, with the words of this value if it is a command
abbrev pub with_whole : Datum → Seen → Seen
with_whole whole (seen.Command number words lengths) = seen.Command number (words_in whole) lengths
with_whole whole what = what
