-- What a non-blocking reader and a non-blocking writer keep.
use Rattle.std.specs.Prelude.{ℕ, Bool, List}

pub record InputState : Type 0 where
  -- the bytes that come before those of the inner reader and were not read
  pub first : List ℕ
  -- whether the next read would block
  pub would_wait : Bool

pub record OutputState : Type 0 where
  -- the maximum number of bytes of a write
  pub most : ℕ
  -- the number of bytes that the last write has written
  pub written : ℕ
  -- whether the last write failed because it would block
  pub would_wait : Bool
  -- whether the last write failed for another reason, or wrote no byte
  pub has_failed : Bool
