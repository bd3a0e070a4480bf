-- The results that a tap reports and prints as JSON for the pieces of either side.
use Rattle.std.specs.Prelude.{◌≡◌, ℕ, Bool, List, [], slice_get, Option, Some, Result, if◌then◌else◌}
use Rattle.resp_value.specs.Data.{Datum}
use Rattle.resp_print.specs.Printed.{Prints}
use Rattle.resp_print.specs.declared.print_error.PrintError.{PrintError}
use Rattle.resp_tap.specs.Called.{CalledAfter, IsChosenCalled, name_of_called}
use Rattle.resp_tap.specs.Filters.{keeps}
use Rattle.resp_tap.specs.JsonLines.{seen_json}
use Rattle.resp_tap.specs.Connections.{SeesNext}
use Rattle.resp_tap.specs.SeenOf.{IsKeptIn}
use Rattle.resp_tap.specs.Taps.{tap_state}
use Rattle.resp_tap.specs.Times.{IsAskedIn, next_asked, waited_of, waits_in}
use Rattle.resp_tap.specs.Watches.{StepOn}
use Rattle.resp_tap.specs.declared.called.Called.{Called}
use Rattle.resp_tap.specs.declared.filter.Filter.{Filter}
use Rattle.resp_tap.specs.declared.json_line.Facts.{Facts}
use Rattle.resp_tap.specs.declared.connection.KeepingTap.{KeepingTap}
use Rattle.resp_tap.specs.declared.moment.Moment.{Moment}
use Rattle.resp_tap.specs.declared.seen.Seen.{Seen}
use Rattle.resp_tap.specs.declared.watch.Side.{Side}

abbrev pub JsonTap : Type 0
JsonTap = KeepingTap Called

-- what is kept of the command that the next reply belongs to
abbrev pub called_of : JsonTap → Option Called
called_of t = slice_get t.kept.items (next_asked t.connection.tap)

-- the line of a result, if the filter lets it through: that of this whole command or value
abbrev pub kept_json : Filter → Facts → Bool → List ℕ → Datum → Seen → List ℕ
kept_json f facts is_chosen name whole what =
    if keeps f facts.client is_chosen facts.waited what then seen_json facts name whole what else []

-- The first result in a piece: it is reported as without JSON, and that of a line too. What is kept follows the commands
-- that wait.
pub record SeesJson (f : Filter) (side : Side) (now : Moment) (old new : JsonTap) (piece : List ℕ) (used : ℕ) (what : Seen)
    (is_line is_chosen : Bool) (size : ℕ) : Type 0 where
  pub seen : SeesNext (Some now) side old.connection new.connection piece used what is_line size
  pub chosen : IsChosenCalled f (called_of old) what is_chosen
  pub calls : CalledAfter is_chosen what (waits_in old.connection.tap) (waits_in new.connection.tap) old.kept.items new.kept.items

-- The line of the result is printed if the filter lets it through, as far as writes succeed. A reply has the name and the
-- delay of its command.
pub record PrintsJson (f : Filter) (client : ℕ) (now : Moment) (old : JsonTap) (what : Seen) (is_line is_chosen : Bool)
    (size : ℕ) (before after : Option (List ℕ)) (failures failures' : ℕ) (printed : Result (Unit {0}) PrintError) : Type 0 where
  pub asked : Option ℕ
  pub of_command : IsAskedIn old.connection.tap asked
  pub facts : Facts
  pub are : facts ≡ record {
    client = client;
    is_line = is_line;
    size = size;
    utc = now.utc.micros;
    waited = waited_of now asked what;
  }
  pub text : (whole : Datum) → IsKeptIn (Some 1024) (tap_state old.connection.tap).kept whole what →
      Prints before after failures failures' printed
      (kept_json f facts is_chosen (name_of_called (called_of old)) whole what) 0

-- The first result in a piece is read, and printed as JSON if the filter of the tap lets it through. The filter stays
-- the same.
abbrev pub WatchesJson : ℕ → Side → Moment → StepOn JsonTap
WatchesJson client side now old new piece watched what before after failures failures' =
    (new.filter ≡ old.filter) × (is_line : Bool) × (is_chosen : Bool) × (size : ℕ) ×
    SeesJson old.filter side now old new piece watched.used what is_line is_chosen size ×
    PrintsJson old.filter client now old what is_line is_chosen size before after failures failures' watched.printed
