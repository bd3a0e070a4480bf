-- The end of a line with a time.
use Rattle.std.specs.Prelude.{ℕ, ◌/◌, List, ◌++◌, Option, None, Some, codes, decimal}
use Rattle.resp_tap.specs.Digits.{clock_text, micros_text}
use Rattle.resp_tap.specs.declared.stamp.Stamp.{Stamp}

-- the seconds that a command waited, with six decimals, if they are known, and LF
abbrev pub waited_text : Option ℕ → List ℕ
waited_text None = codes "\n"
waited_text (Some micros) =
    (codes " after " ++ decimal (micros / 1000000)) ++ (codes "." ++ (micros_text micros ++ codes " s\n"))

abbrev pub stamp_text : Stamp → List ℕ
stamp_text stamp = clock_text stamp.utc ++ waited_text stamp.waited

-- the end of a line
abbrev pub ending_text : Option Stamp → List ℕ
ending_text None = codes "\n"
ending_text (Some stamp) = codes " at " ++ stamp_text stamp
