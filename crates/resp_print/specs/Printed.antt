-- The lines of a value that are printed.
use Rattle.std.specs.Prelude.{◌≡◌, Bool, true, false, ℕ, ◌≤◌, ◌^◌, List, ◌++◌, Option, Result, Ok, Err, codes, decimal}
use Rattle.resp_value.specs.Data.{Datum, scalar, aggregate}
use Rattle.resp_io.specs.Devices.{Appends, count_after}
use Rattle.resp_print.specs.Shown.{indentation}
use Rattle.resp_print.specs.Written.{AppendsPart}
use Rattle.resp_print.specs.declared.print_error.PrintError.{PrintError}
use Rattle.resp_print.specs.declared.print_error.PrintError.TheVariants.{Write, TooDeep}

-- The whole text was appended. If a write failed, or a level of the text is not below 2^64, the first part was
-- appended.
abbrev pub Prints : {X : Type 0} → Option (List ℕ) → Option (List ℕ) → ℕ → ℕ → Result X PrintError → List ℕ → ℕ → Type 0
Prints before after failures failures' (Ok x) text levels = Appends before after text × (failures' ≡ failures)
Prints before after failures failures' (Err Write) text levels =
    AppendsPart before after text × (failures' ≡ count_after 1 failures)
Prints before after failures failures' (Err TooDeep) text levels =
    AppendsPart before after text × (failures' ≡ failures) × (2 ^ 64 ≤ levels)

-- the value has no members
abbrev pub IsScalar : Datum → Type 0
IsScalar (scalar s) = Unit {0}
IsScalar (aggregate k xs) = ⊥

-- the words before the digits of a big number
abbrev pub big_word : Bool → List ℕ
big_word true = codes "big -"
big_word false = codes "big "

-- the first line of an aggregate
abbrev pub first_line : ℕ → List ℕ → List ℕ
first_line level words = indentation level ++ words

-- the last line of an aggregate of this many items
abbrev pub end_line : ℕ → ℕ → List ℕ
end_line level items = indentation level ++ (codes "end " ++ decimal items ++ codes "\n")

-- the lines of an aggregate around those of its members
abbrev pub group_lines : ℕ → List ℕ → List ℕ → ℕ → List ℕ
group_lines level words members items = first_line level words ++ (members ++ end_line level items)

-- the first line of an attribute, the lines of its pairs, and the line `of`
abbrev pub annotating_front : ℕ → List ℕ → List ℕ
annotating_front level pairs = first_line level (codes "attr\n") ++ (pairs ++ first_line level (codes "of\n"))
