-- The part of a value that `show` and `check` have read.
use Rattle.std.specs.Prelude.{◌≡◌, ℕ, ◌+◌, List, [], length, take}
use Rattle.resp_value.specs.Rules.{Rules, WithinTotal}
use Rattle.resp_value.specs.Spellings.{IsViable}
use Rattle.resp_scan.specs.Counts.{close_count, open_count}
use Rattle.resp_scan.specs.Machine.Tokens.{Place}
use Rattle.resp_scan.specs.Reading.{AreDue, BeginDue, Events, HasNoValue, HasRead}
use Rattle.resp_cli_stream.specs.Lines.{page_of}
use Rattle.resp_cli_stream.specs.Pages.{blank, left_text, page_after, shown}
use Rattle.resp_cli_stream.specs.declared.lines.Lines.{Lines}

-- a scanner has read the beginning of a value, and has returned the events that are due for it
pub record HasScanned (s : Place) (front : List ℕ) (given : Events) : Type 0 where
  pub reads : HasRead s front given
  pub all_due : AreDue front given
  pub no_value : HasNoValue front

-- the beginning of a value was read, and nothing was written
abbrev pub HasLookedAt : Place → List ℕ → List ℕ → Type 0
HasLookedAt s front so_far = ((given : Events) × HasScanned s front given) × (so_far ≡ [])

-- the lines are those of these events, and as many are open as their aggregates
pub record AreLinesOf (lines : Lines) (given : Events) : Type 0 where
  pub page : page_of lines ≡ page_after given blank
  pub deep : length (page_after given blank).open_lines + close_count given ≡ open_count given

-- the beginning of a value was scanned, and the text of its events was written
pub record HasShown (s : Place) (lines : Lines) (front so_far : List ℕ) : Type 0 where
  pub given : Events
  pub scanned : HasScanned s front given
  pub shown_lines : AreLinesOf lines given
  pub written : so_far ≡ shown given

-- the text of the events that are due for the beginning of a value
pub record IsShownDue (front text : List ℕ) : Type 0 where
  pub given : Events
  pub all_due : AreDue front given
  pub is_text : text ≡ shown given

-- the text of the events that are due for an incomplete value
pub record IsShownOf (front left : List ℕ) : Type 0 where
  pub given : Events
  pub all_due : AreDue front given
  pub is_text : left ≡ left_text given

-- the text of the first events that are due for a viable beginning of the bytes
pub record IsShownIn (r : Rules) (bytes begun : List ℕ) : Type 0 where
  pub size : ℕ
  pub given : Events
  pub viable : IsViable r WithinTotal (take size bytes)
  pub first_due : BeginDue (take size bytes) given
  pub is_text : begun ≡ left_text given
