-- The request that a client has begun: an array or a line.
use Rattle.std.specs.Prelude.{◌≡◌, ◌⊎◌, ℕ, Bool, true, List, []}
use Rattle.resp_frames.specs.declared.unfinished.Unfinished.{Unfinished}
use Rattle.resp_frames.specs.Framing.{HasBegun}
use Rattle.resp_line.specs.Inline.{BeginsLine, IsWithinLine}
use Rattle.resp_value.specs.Rules.{Rules}

-- an array has begun with these bytes, or nothing has begun
pub record HasArray (rules : Rules) (u : Unfinished) (front : List ℕ) : Type 0 where
  pub begun : HasBegun rules u.begun front
  pub no_line : u.line.items ≡ []

-- a line is a request, and one has begun with these bytes
pub record HasLine (rules : Rules) (lines : Bool) (u : Unfinished) (front : List ℕ) : Type 0 where
  pub are_requests : lines ≡ true
  pub begins : BeginsLine front
  pub within : IsWithinLine front
  pub bytes : u.line.items ≡ front
  pub no_array : HasBegun rules u.begun []

-- these are the bytes of the line that has begun, or there are none, and no array has begun
pub record HasBytes (rules : Rules) (u : Unfinished) (front : List ℕ) : Type 0 where
  pub bytes : u.line.items ≡ front
  pub no_array : HasBegun rules u.begun []

-- a client has begun a request with these bytes, or none
abbrev pub HasBegunRequest : Rules → Bool → Unfinished → List ℕ → Type 0
HasBegunRequest rules lines u front = HasArray rules u front ⊎ HasLine rules lines u front
