-- All segments that have come of a side, and all that a stream has told of them.
use Rattle.std.specs.Prelude.{◌≡◌, ℕ, ◌+◌, ◌<◌, ◌≤◌, List, [], ◌∷◌, ◌++◌, length, slice_index}
use Rattle.std.specs.List.{IsAmong}
use Rattle.resp_capture.specs.Streams.{Holds, IsHeld, Skips, StandsIn, StreamState, TakesHeld, TakesSegment}

-- a segment that has come: the place of its first byte, and its bytes
pub record Came : Type 0 where
  pub at : ℕ
  pub bytes : List ℕ

-- what a stream tells: the next bytes of the side, or how many of them are missing
pub data Told : Type 0 where
  Bytes : List ℕ → Told
  Missing : ℕ → Told

-- the byte at this place is one of a segment that has come
pub record HasCome (came : List Came) (place byte : ℕ) : Type 0 where
  pub segment : Came
  pub among : IsAmong came segment
  pub stands : StandsIn segment.at segment.bytes place byte

-- the place after what was told, which begins at this place
abbrev pub end_of : ℕ → List Told → ℕ
end_of at [] = at
end_of at (Bytes bytes ∷ told) = end_of (at + length bytes) told
end_of at (Missing count ∷ told) = end_of (at + count) told

-- Each byte that was told has the place after all that was told before it, and it is the byte of a segment at this place.
abbrev pub AreOfSegments : List Came → ℕ → List Told → Type 0
AreOfSegments came at [] = Unit {0}
AreOfSegments came at (Bytes bytes ∷ told) =
    ((index : ℕ) → index < length bytes → HasCome came (at + index) (slice_index bytes index)) ×
    AreOfSegments came (at + length bytes) told
AreOfSegments came at (Missing count ∷ told) = AreOfSegments came (at + count) told

-- What a stream has told is true of the segments that have come. Each byte that was told is a byte of a segment, at its place,
-- and no place is told twice. A byte that has come was told, or its place was, or a byte of this place waits.
pub record IsTrueOf (came : List Came) (told : List Told) (stream : StreamState) : Type 0 where
  pub end : stream.next ≡ end_of 0 told
  pub bytes : AreOfSegments came 0 told
  pub waiting : (place byte : ℕ) → IsHeld stream.held place byte → HasCome came place byte
  pub none_left_out : (place byte : ℕ) → HasCome came place byte → stream.next ≤ place → Holds stream.held place

-- it is true of a stream to which nothing has come
abbrev pub BeginsTrue : Type 0
BeginsTrue = (first : ℕ) → IsTrueOf [] [] (record { first = first; next = 0; held = [] })

-- and after each segment
abbrev pub StaysTrueOfSegments : Type 0
StaysTrueOfSegments = (came : List Came) (told : List Told) (old new : StreamState) (at : ℕ) (bytes given : List ℕ) →
    IsTrueOf came told old → TakesSegment old new at bytes given →
    IsTrueOf (came ++ (record { at = at; bytes = bytes }) ∷ []) (told ++ Bytes given ∷ []) new

-- and after bytes that had waited
abbrev pub StaysTrueOfHeld : Type 0
StaysTrueOfHeld = (came : List Came) (told : List Told) (old new : StreamState) (given : List ℕ) →
    IsTrueOf came told old → TakesHeld old new given → IsTrueOf came (told ++ Bytes given ∷ []) new

-- And after missing bytes were told: no byte that has come has one of their places.
abbrev pub StaysTrueOfMissing : Type 0
StaysTrueOfMissing = (came : List Came) (told : List Told) (old new : StreamState) (missing : ℕ) →
    IsTrueOf came told old → Skips old new missing → IsTrueOf came (told ++ Missing missing ∷ []) new ×
    ((place byte : ℕ) → old.next ≤ place → place < new.next → HasCome came place byte → ⊥)
