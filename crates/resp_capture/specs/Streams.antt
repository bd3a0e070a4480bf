-- The bytes of one side of a connection, put together from segments. A byte has a place, counted from 0.
use Rattle.std.specs.Prelude.{◌≡◌, ◌⊎◌, ℕ, ◌+◌, ◌%◌, ◌^◌, ◌<◌, ◌≤◌, List, [], length, slice_index, sum_by}
use Rattle.std.specs.List.{IsAmong}
use Rattle.resp_capture.specs.declared.held.WaitingPart.{WaitingPart}
use Rattle.resp_capture.specs.declared.stream.Placed.{Placed}
use Rattle.resp_capture.specs.declared.stream.Placed.TheVariants.{Given, Waits}

-- the state of a stream
pub record StreamState : Type 0 where
  -- the sequence number of the byte at place 0
  pub first : ℕ
  -- the place of the next byte
  pub next : ℕ
  -- the parts that wait for bytes before them
  pub held : List WaitingPart

-- the byte at this place, among bytes of which the first has the place `at`
pub record StandsIn (at : ℕ) (bytes : List ℕ) (place byte : ℕ) : Type 0 where
  pub index : ℕ
  pub within : index < length bytes
  pub place_is : place ≡ at + index
  pub byte_is : byte ≡ slice_index bytes index

-- the byte at this place is one of a part that waits
pub record IsHeld (held : List WaitingPart) (place byte : ℕ) : Type 0 where
  pub part : WaitingPart
  pub among : IsAmong held part
  pub stands : StandsIn part.at part.bytes.items place byte

-- some byte at this place waits
pub record Holds (held : List WaitingPart) (place : ℕ) : Type 0 where
  pub byte : ℕ
  pub is_held : IsHeld held place byte

-- there is a byte at this place, among so many bytes of which the first has the place `at`
abbrev pub Covers : ℕ → ℕ → ℕ → Type 0
Covers at count place = (at ≤ place) × (place < at + count)

-- the number of bytes that wait
abbrev pub held_bytes : List WaitingPart → ℕ
held_bytes held = sum_by (λ (part : WaitingPart). length part.bytes.items) held

-- the place is one of the byte with this sequence number: less than 2^31 bytes after the next byte, or at most 2^31 before it
pub record IsPlaceOf (stream : StreamState) (sequence place : ℕ) : Type 0 where
  pub number : (stream.first + place) % 2 ^ 32 ≡ sequence
  pub not_above : place < stream.next + 2 ^ 31
  pub not_below : stream.next ≤ place + 2 ^ 31
  pub fits : place < 2 ^ 64

-- Bytes were given, the next ones of the side, when a segment came. Each is the byte of the segment with its place. Of the
-- places from the next byte on, none that waited or that the segment has is forgotten, and nothing else waits.
pub record TakesSegment (old new : StreamState) (at : ℕ) (bytes given : List ℕ) : Type 0 where
  pub same_first : new.first ≡ old.first
  pub next_is : new.next ≡ old.next + length given
  pub given_is : (index : ℕ) → index < length given → StandsIn at bytes (old.next + index) (slice_index given index)
  pub known : (place byte : ℕ) → IsHeld new.held place byte → IsHeld old.held place byte ⊎ StandsIn at bytes place byte
  pub kept : (place : ℕ) → new.next ≤ place → Holds old.held place ⊎ Covers at (length bytes) place → Holds new.held place

-- Bytes were given, the next ones of the side, that had waited.
pub record TakesHeld (old new : StreamState) (given : List ℕ) : Type 0 where
  pub same_first : new.first ≡ old.first
  pub next_is : new.next ≡ old.next + length given
  pub given_is : (index : ℕ) → index < length given → IsHeld old.held (old.next + index) (slice_index given index)
  pub known : (place byte : ℕ) → IsHeld new.held place byte → IsHeld old.held place byte
  pub kept : (place : ℕ) → new.next ≤ place → Holds old.held place → Holds new.held place
  pub fewer : length new.held + 1 ≡ length old.held

-- The next bytes, so many, are missing: none of them waits.
pub record Skips (old new : StreamState) (missing : ℕ) : Type 0 where
  pub same_first : new.first ≡ old.first
  pub same_held : new.held ≡ old.held
  pub next_is : new.next ≡ old.next + missing
  pub missing_is : (place : ℕ) → old.next ≤ place → place < new.next → Holds old.held place → ⊥

-- each part that waits begins after the next byte
abbrev pub WaitsForOthers : StreamState → Type 0
WaitsForOthers stream = (part : WaitingPart) → IsAmong stream.held part → stream.next < part.at

-- a part that waits begins at the next byte or before it
pub record HasReadyPart (stream : StreamState) : Type 0 where
  pub part : WaitingPart
  pub among : IsAmong stream.held part
  pub ready : part.at ≤ stream.next

-- a segment has to wait, and there is no room for it
abbrev pub IsFull : StreamState → ℕ → List ℕ → Type 0
IsFull stream at bytes = (stream.next < at) × ((1024 ≤ length stream.held) ⊎ (1048576 < held_bytes stream.held + length bytes))

-- the bytes that a segment gave
abbrev pub given_of : Placed → List ℕ
given_of (Given bytes) = bytes.now
given_of Waits = []
