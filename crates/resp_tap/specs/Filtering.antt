-- The results that a filtered tap reports and prints for the pieces of either side.
use Rattle.std.specs.Prelude.{◌≡◌, ℕ, Bool, List, slice_get, Option, Result}
use Rattle.resp_value.specs.Data.{Datum}
use Rattle.resp_print.specs.Printed.{Prints}
use Rattle.resp_print.specs.declared.print_error.PrintError.{PrintError}
use Rattle.resp_tap.specs.Noted.{IsChosen, NotesAfter, filtered_text}
use Rattle.resp_tap.specs.Options.{options_of}
use Rattle.resp_tap.specs.SeenOf.{IsKeptIn, with_whole}
use Rattle.resp_tap.specs.Taps.{tap_state}
use Rattle.resp_tap.specs.Texts.{levels_of}
use Rattle.resp_tap.specs.Times.{IsAskedIn, next_asked, stamp_of, waits_in}
use Rattle.resp_tap.specs.Connections.{SeesNext}
use Rattle.resp_tap.specs.Watches.{StepOn}
use Rattle.resp_tap.specs.declared.filter.Filter.{Filter}
use Rattle.resp_tap.specs.declared.connection.KeepingTap.{KeepingTap}
use Rattle.resp_tap.specs.declared.moment.Moment.{Moment}
use Rattle.resp_tap.specs.declared.note.Note.{Note}
use Rattle.resp_tap.specs.declared.print.Printing.{Printing}
use Rattle.resp_tap.specs.declared.seen.Seen.{Seen}
use Rattle.resp_tap.specs.declared.watch.Side.{Side}

abbrev pub FilteredTap : Type 0
FilteredTap = KeepingTap Note

-- what is kept of the command that the next reply belongs to
abbrev pub note_of : FilteredTap → Option Note
note_of t = slice_get t.kept.items (next_asked t.connection.tap)

-- The first result in a piece: it is reported as without a filter, and that of a line too. Its command is let through by
-- its words or is not. What is kept of the commands that wait follows the whole words.
pub record SeesFiltered (filter : Filter) (printing : Printing) (side : Side) (now : Option Moment) (old new : FilteredTap)
    (piece : List ℕ) (used : ℕ) (what : Seen) (is_line is_chosen : Bool) (size : ℕ) : Type 0 where
  pub seen : SeesNext now side old.connection new.connection piece used what is_line size
  pub chosen : IsChosen filter (note_of old) what is_chosen
  pub notes : (whole : Datum) → IsKeptIn (tap_state old.connection.tap).shown (tap_state old.connection.tap).kept whole what →
      NotesAfter filter (options_of printing old.connection.tap) now is_line is_chosen (with_whole whole what) (waits_in old.connection.tap)
      (waits_in new.connection.tap) old.kept.items new.kept.items

-- The text of the result is printed as far as the filter lets it through and writes succeed. A reply is judged by what is
-- kept of its command, and by the time of its command.
pub record PrintsFiltered (filter : Filter) (printing : Printing) (now : Option Moment) (old : FilteredTap) (what : Seen)
    (is_line is_chosen : Bool) (before after : Option (List ℕ)) (failures failures' : ℕ)
    (printed : Result (Unit {0}) PrintError) : Type 0 where
  pub asked : Option ℕ
  pub of_command : IsAskedIn old.connection.tap asked
  pub text : (whole : Datum) → IsKeptIn (tap_state old.connection.tap).shown (tap_state old.connection.tap).kept whole what →
      Prints before after failures failures' printed (filtered_text filter (options_of printing old.connection.tap) is_line is_chosen
      (note_of old) (stamp_of now asked what) whole what) (levels_of what)

-- The first result in a piece is read, and printed if the filter of the tap lets it through. The filter stays the same.
abbrev pub WatchesFiltered : Printing → Side → Option Moment → StepOn FilteredTap
WatchesFiltered printing side now old new piece watched what before after failures failures' =
    (new.filter ≡ old.filter) × (is_line : Bool) × (is_chosen : Bool) × (size : ℕ) ×
    SeesFiltered old.filter printing side now old new piece watched.used what is_line is_chosen size ×
    PrintsFiltered old.filter printing now old what is_line is_chosen before after failures failures' watched.printed
