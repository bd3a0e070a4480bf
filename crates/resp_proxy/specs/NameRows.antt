-- Commands that are counted by their places in the table.
use Rattle.std.specs.Prelude.{◌≡◌, ◌≢◌, ℕ, ◌+◌, ◌<◌, List, length, min, slice_index_or, Option, None, Some}
use Rattle.resp_proxy.specs.ErrorRows.{last_count}

-- one command more at this place, if there is such a place; the other numbers stay as they are
pub record AddsCommand (place : ℕ) (old new : List ℕ) : Type 0 where
  pub counted : place < length old → slice_index_or new place 0 ≡ min (slice_index_or old place 0 + 1) last_count
  pub others : (other : ℕ) → other ≢ place → slice_index_or new other 0 ≡ slice_index_or old other 0
  pub number : length new ≡ length old

-- one command more at its place in the table; a command without a place is not counted
abbrev pub CountsCommand : Option ℕ → List ℕ → List ℕ → Type 0
CountsCommand None old new = new ≡ old
CountsCommand (Some place) old new = AddsCommand place old new
