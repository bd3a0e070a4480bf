-- The commands for a line are whole.
use Rattle.std.specs.Prelude.{ℕ, List}
use Rattle.std.specs.List.{AllByRecursion, concat}
use Rattle.resp_value.specs.Rules.{Rules}
use Rattle.resp_value.specs.Data.{Datum}
use Rattle.resp_value.specs.Spellings.{AreSpellings, IsSpelling}
use Rattle.resp_board.specs.Boards.{Ask, Event, Fail, Lose, Own, Part, Redirect, Release, ReleaseBehind, Reply, Split, after_events, nothing_asked}
use Rattle.resp_board.specs.Histories.{texts_on}

-- the text is a spelling of a value
abbrev pub IsSpelled : Rules → List ℕ → Type 0
IsSpelled rules text = (x : Datum) × IsSpelling rules x text

-- the texts that an event sends are spellings
abbrev pub SendsSpellings : Rules → Event → Type 0
SendsSpellings rules (Ask who line text) = IsSpelled rules text
SendsSpellings rules (Split who parts merge) = AllByRecursion (λ (p : Part). IsSpelled rules p.text) parts
SendsSpellings rules (Own who text) = Unit {0}
SendsSpellings rules (Reply line text) = Unit {0}
SendsSpellings rules (Redirect line other) = Unit {0}
SendsSpellings rules (Release line other) = Unit {0}
SendsSpellings rules (ReleaseBehind who text line other) = IsSpelled rules text
SendsSpellings rules (Lose line count text) = Unit {0}
SendsSpellings rules (Fail line text) = Unit {0}

-- If the texts that clients send are spellings, the bytes for each line are spellings of values, whole and in order.
abbrev pub TheServerIsAskedWholeCommands : Type 0
TheServerIsAskedWholeCommands = (rules : Rules) (line : ℕ) (events : List Event) → AllByRecursion (SendsSpellings rules) events →
    (xs : List Datum) × AreSpellings rules xs (concat (texts_on line (after_events nothing_asked events)))
