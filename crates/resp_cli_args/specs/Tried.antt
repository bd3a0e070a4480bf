-- A text that a call tried to write, and the line of an error in a value.
use Rattle.std.specs.Prelude.{◌≡◌, ◌⊎◌, ◌<◌, length, ℕ, List, ◌++◌, Option, codes, decimal}
use Rattle.resp_io.specs.Devices.{Appends, count_after}
use Rattle.resp_print.specs.Written.{AppendsPart}

-- the whole text was appended and no write failed
abbrev pub WritesWhole : Option (List ℕ) → Option (List ℕ) → ℕ → ℕ → List ℕ → Type 0
WritesWhole before after failures failures' text = Appends before after text × (failures' ≡ failures)

-- a text that is not empty was written
abbrev pub WritesSome : Option (List ℕ) → Option (List ℕ) → ℕ → ℕ → Type 0
WritesSome before after failures failures' =
    (text : List ℕ) × (0 < length text) × WritesWhole before after failures failures' text

-- one write failed, and the first part of the text was appended
abbrev pub BreaksText : Option (List ℕ) → Option (List ℕ) → ℕ → ℕ → List ℕ → Type 0
BreaksText before after failures failures' text = AppendsPart before after text × (failures' ≡ count_after 1 failures)

-- The whole text was appended and no write failed; or one write failed, and the first part of the text was appended.
abbrev pub TriesText : Option (List ℕ) → Option (List ℕ) → ℕ → ℕ → List ℕ → Type 0
TriesText before after failures failures' text =
    WritesWhole before after failures failures' text ⊎ BreaksText before after failures failures' text

-- the line of an error in a value: its number, the error's name, and the byte
abbrev pub refusal_line : ℕ → List ℕ → ℕ → List ℕ
refusal_line value name at = codes "value " ++ decimal value ++ codes ": " ++ name ++ codes " at byte " ++ decimal at ++
    codes "\n"
