-- The effect of a write into spare room on a buffer.
use Rattle.std.specs.Prelude.{◌≡◌, ℕ, ◌+◌, List, ◌++◌, length}
use Rattle.bytes.specs.Filled.{Filled}

-- the text was appended, and used its length of the spare room
pub record Fills (old new : Filled) (text : List ℕ) : Type 0 where
  pub items : new.items ≡ old.items ++ text
  pub spare : new.spare + length text ≡ old.spare
