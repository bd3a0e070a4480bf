-- The cuts in the bytes of one direction.
use Rattle.std.specs.Prelude.{ℕ, max}
use Rattle.resp_net.specs.declared.cutter.Cut.{Cut}
use Rattle.resp_net.specs.declared.cutter.Cut.TheVariants.{Every, Random}

pub record CutState : Type 0 where
  -- the maximum number of bytes between two cuts
  pub most : ℕ
  -- the number of bytes before the next cut
  pub left : ℕ

-- the maximum number of bytes between two cuts
abbrev pub most_of : Cut → ℕ
most_of (Every size) = max size 1
most_of (Random seed) = 256
