-- Connections of a capture, with two sides.
use Rattle.std.specs.Prelude.{◌≡◌, ℕ, ◌+◌, ◌%◌, ◌^◌, ◌<◌, ◌≤◌, ◌&&◌, Option, false, true, [], None, Some, cond, if◌then◌else◌, length, ltb, MatchOption}
use Rattle.resp_capture.specs.Streams.{IsPlaceOf, StreamState, TakesSegment, given_of}
use Rattle.resp_capture.specs.declared.connection.CapturedConnection.{CapturedConnection}
use Rattle.resp_capture.specs.declared.connection.End.{End}
use Rattle.resp_capture.specs.declared.connection.End.TheVariants as ends
use Rattle.resp_capture.specs.declared.connection.SentSide.{SentSide}
use Rattle.resp_capture.specs.declared.stream.Placed.{Placed}
use Rattle.resp_capture.specs.declared.transport.Segment.{Segment}

-- the sequence number of the first byte of a segment: the beginning of a side has a number of its own
abbrev pub first_number : Segment → ℕ
first_number segment = (segment.sequence + cond segment.begins 1 0) % 2 ^ 32

-- nothing has come of this side
abbrev pub IsNewSide : SentSide → Type 0
IsNewSide side = (side.is_begun ≡ false) × (side.last ≡ None)

-- the stream of a side, of which a segment with this number comes: it begins there if nothing has come before
abbrev pub begun_stream : SentSide → ℕ → StreamState
begun_stream side first = cond side.is_begun side.stream (record { first = first; next = 0; held = [] })

-- the side of the bytes that an end sends
abbrev pub side_of : CapturedConnection → End → SentSide
side_of connection ends.Client = connection.to_server
side_of connection ends.Server = connection.to_client

abbrev pub other : End → End
other ends.Client = ends.Server
other ends.Server = ends.Client

-- the connections have the same two ends
abbrev pub HasSameEnds : CapturedConnection → CapturedConnection → Type 0
HasSameEnds old new = (new.client ≡ old.client) × (new.server ≡ old.server)

-- the segment was sent by this end to the other one
abbrev pub IsFrom : CapturedConnection → End → Segment → Type 0
IsFrom connection ends.Client segment = (segment.from ≡ connection.client) × (segment.to ≡ connection.server)
IsFrom connection ends.Server segment = (segment.from ≡ connection.server) × (segment.to ≡ connection.client)

-- The place after the last byte of a side, after a segment at this place: the end of the first segment that is the last one of
-- the side. Its place is below 2^64.
abbrev pub last_after : Option ℕ → Segment → ℕ → Option ℕ
last_after (Some last) segment place = Some last
last_after None segment place = if segment.ends && ltb (place + length segment.data.now) (2 ^ 64)
    then Some (place + length segment.data.now) else None

-- a side has taken a segment: its stream has taken the bytes at the place of their number
pub record TakesInSide (old new : SentSide) (segment : Segment) (taken : Placed) : Type 0 where
  pub place : ℕ
  pub is_place : IsPlaceOf (begun_stream old (first_number segment)) (first_number segment) place
  pub takes : TakesSegment (begun_stream old (first_number segment)) new.stream place segment.data.now (given_of taken)
  pub begun : new.is_begun ≡ true
  pub last_is : new.last ≡ last_after old.last segment place

-- a side has not taken a segment: its bytes are those of before, and it knows its end if the segment is the last one
pub record RefusesInSide (old new : SentSide) (segment : Segment) : Type 0 where
  pub same_stream : new.stream ≡ begun_stream old (first_number segment)
  pub begun : new.is_begun ≡ true
  pub last_is : (place : ℕ) → IsPlaceOf (begun_stream old (first_number segment)) (first_number segment) place →
      new.last ≡ last_after old.last segment place
  pub same_last : ((place : ℕ) → IsPlaceOf (begun_stream old (first_number segment)) (first_number segment) place → ⊥) →
      new.last ≡ old.last

-- a segment of the client begins another connection with the same ends: it is the first one of a side, and the side has begun
-- with another number
pub record BeginsAgain (side : SentSide) (segment : Segment) : Type 0 where
  pub first : segment.begins ≡ true
  pub asks : segment.acknowledges ≡ false
  pub begun : side.is_begun ≡ true
  pub another : IsPlaceOf side.stream (first_number segment) 0 → ⊥

-- all bytes before the end of the side were given
abbrev pub HasEnded : SentSide → Type 0
HasEnded side = MatchOption side.last ⊥ (λ last. last ≤ side.stream.next)

-- the last segment of a side has come, and so many bytes before its end were not given, at least one
pub record LacksToEnd (side : SentSide) (missing : ℕ) : Type 0 where
  pub last : ℕ
  pub is_last : side.last ≡ Some last
  pub some : 0 < missing
  pub to_last : side.stream.next + missing ≡ last
