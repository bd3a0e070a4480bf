-- The limits, as numbers and switches.
use Rattle.std.specs.Prelude.{ℕ, ◌≤◌, Bool}

pub record Bounds : Type 0 where
  -- aggregates nested inside one another
  pub depth : ℕ
  -- bytes of one content
  pub length : ℕ
  -- bytes of one encoded value
  pub total : ℕ
  -- members of one array, set or push, or pairs of one map or attribute
  pub items : ℕ
  -- whether streamed forms are allowed
  pub streamed : Bool
  -- whether doubles are allowed
  pub doubles : Bool

abbrev pub IsDepth : ℕ → Type 0
IsDepth n = (4 ≤ n) × (n ≤ 128)

abbrev pub IsLength : ℕ → Type 0
IsLength n = (64 ≤ n) × (n ≤ 1073741824)

abbrev pub IsTotal : ℕ → Type 0
IsTotal n = (256 ≤ n) × (n ≤ 1099511627776)

abbrev pub IsItems : ℕ → Type 0
IsItems n = (16 ≤ n) × (n ≤ 1099511627776)

-- each number is within its range
pub record AreBounds (bounds : Bounds) : Type 0 where
  pub depth_in_range : IsDepth bounds.depth
  pub length_in_range : IsLength bounds.length
  pub total_in_range : IsTotal bounds.total
  pub items_in_range : IsItems bounds.items
