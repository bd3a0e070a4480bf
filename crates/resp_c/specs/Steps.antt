-- The scanner in memory of the caller.
use Rattle.std.specs.Prelude.{◌≡◌, Option, Some}
use Rattle.resp_scan.specs.Machine.Tokens.{Place}

-- the memory holds a scanner
abbrev pub IsHeld : Option Place → Type 0
IsHeld held = (place : Place) × (held ≡ Some place)

-- this holds of the scanner in the memory
abbrev pub WhereHeld : Option Place → (Place → Type 0) → Type 0
WhereHeld held P = (place : Place) → held ≡ Some place → P place

-- this holds of the scanners in the memory before and after a call
pub record InMemory (before after : Option Place) (P : Place → Place → Type 0) : Type 0 where
  pub old : Place
  pub new : Place
  pub was : before ≡ Some old
  pub is : after ≡ Some new
  pub holds : P old new
