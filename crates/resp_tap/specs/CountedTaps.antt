-- The results that a tap counts for the pieces of either side, and what is printed of them.
use Rattle.std.specs.Prelude.{◌≡◌, ℕ, Bool, List, [], Option, None, Some, Result, if◌then◌else◌}
use Rattle.resp_stats.specs.declared.row.CommandRow.{CommandRow}
use Rattle.resp_print.specs.Printed.{Prints}
use Rattle.resp_print.specs.declared.print_error.PrintError.{PrintError}
use Rattle.resp_tap.specs.Counting.{CountedTap, CountsSeen}
use Rattle.resp_tap.specs.Filters.{keeps_client}
use Rattle.resp_tap.specs.Connections.{SeesNext}
use Rattle.resp_tap.specs.Texts.{levels_of, refused_text}
use Rattle.resp_tap.specs.Times.{stamp_of, waits_in}
use Rattle.resp_tap.specs.Watches.{StepOn}
use Rattle.resp_tap.specs.declared.filter.Filter.{Filter}
use Rattle.resp_tap.specs.declared.moment.Moment.{Moment}
use Rattle.resp_tap.specs.declared.print.Printing.{Printing}
use Rattle.resp_tap.specs.declared.seen.Seen.{Seen}
use Rattle.resp_tap.specs.declared.watch.Side.{Side}

-- the text of an error, if the filter lets lines about the client through; no text of other results
abbrev pub counted_text : Filter → Printing → Moment → Seen → List ℕ
counted_text f printing now what = if keeps_client f printing.client
    then refused_text printing.client (stamp_of (Some now) None what) what else []

-- The first result in a piece: it is reported as without counting, and that of a line too. It is counted.
pub record SeesCounted (f : Filter) (client : ℕ) (side : Side) (now : Moment) (old new : CountedTap) (piece : List ℕ)
    (used : ℕ) (what : Seen) (is_line : Bool) (size : ℕ) (rows rows' : List CommandRow) : Type 0 where
  pub seen : SeesNext (Some now) side old.connection new.connection piece used what is_line size
  pub counts : CountsSeen f client now old new size what (waits_in old.connection.tap) (waits_in new.connection.tap) rows rows'

-- an error is printed, as far as writes succeed
abbrev pub PrintsCounted : Filter → Printing → Moment → Seen → Option (List ℕ) → Option (List ℕ) → ℕ → ℕ →
    Result (Unit {0}) PrintError → Type 0
PrintsCounted f printing now what before after failures failures' printed =
    Prints before after failures failures' printed (counted_text f printing now what) (levels_of what)

-- The first result in a piece is read and counted in these rows, and printed if it is an error. The filter of the tap
-- decides, and stays the same.
abbrev pub WatchesCounted : Printing → Side → Moment → StepOn (CountedTap × List CommandRow)
WatchesCounted printing side now (old, rows) (new, rows') piece watched what before after failures failures' =
    (new.filter ≡ old.filter) × (is_line : Bool) × (size : ℕ) ×
    SeesCounted old.filter printing.client side now old new piece watched.used what is_line size rows rows' ×
    PrintsCounted old.filter printing now what before after failures failures' watched.printed
