-- The bytes that wait in a lane.
use Rattle.std.specs.Prelude.{◌≡◌, ℕ, Bool, List, ◌++◌}

pub record LaneState : Type 0 where
  -- the bytes that were read and wait to be written
  pub waiting : List ℕ
  -- whether the sending side has ended, and the other side was told
  pub has_ended : Bool

-- Bytes were read. Those that waited, followed by these, are bytes that were written, followed by those that wait now.
pub record Forwards (came : List ℕ) (old new : LaneState) : Type 0 where
  pub gone : List ℕ
  pub whole : old.waiting ++ came ≡ gone ++ new.waiting
