-- The bytes that a step borrows from its piece.
use Rattle.std.specs.Prelude.{◌≡◌, ℕ, ◌-◌, ◌<◌, Bool, true, false, eqb, List, length, take, drop, Option, Some}
use Rattle.resp_scan.specs.declared.event.Event.{Event}
use Rattle.resp_scan.specs.declared.event.Event.TheVariants as event
use Rattle.resp_scan.specs.declared.event.Step.{Step}

-- a part is one byte if it is a digit that was due; otherwise it is the last bytes of the piece that the step used
abbrev pub IsRun : Bool → List ℕ → ℕ → List ℕ → Type 0
IsRun true piece n p = length p ≡ 1
IsRun false piece n p = (0 < length p) × (p ≡ drop (n - length p) (take n piece))

-- the bytes of an event's part, if it has a part
abbrev pub IsPartOf : List ℕ → ℕ → Option Event → Type 0
IsPartOf piece n (Some (event.Part p)) = IsRun (eqb n 0) piece n p.now
IsPartOf piece n _ = Unit {0}

-- the bytes that a step borrows
abbrev pub IsOfPiece : List ℕ → Step → Type 0
IsOfPiece piece r = IsPartOf piece r.used r.event
