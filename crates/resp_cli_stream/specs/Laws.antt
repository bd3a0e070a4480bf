-- Facts about the text of events.
use Rattle.std.specs.Prelude.{◌≡◌}
use Rattle.resp_value.specs.Trees.{IsTree, Tree}
use Rattle.resp_value.specs.TreeValues.{value}
use Rattle.resp_fronts.specs.Events.{all_events, without_places}
use Rattle.resp_cli_stream.specs.Pages.{shown}
use Rattle.resp_print.specs.Shown.{shown_text}

-- the text of a value's events, part by part, is the text of the value
abbrev pub EventsAreShownAsTheirValue : Type 0
EventsAreShownAsTheirValue = (tree : Tree) → IsTree tree →
    shown (without_places (all_events tree)) ≡ shown_text (value tree)
