-- Files of the format pcap as they are written.
use Rattle.std.specs.Prelude.{◌≡◌, ℕ, ◌+◌, ◌%◌, ◌^◌, ◌<◌, ◌≤◌, List, Ok, Some, drop, length}
use Rattle.resp_capture.specs.Blocks.{first_size, magic_of, record_size}
use Rattle.resp_capture.specs.Frames.{IsTime}
use Rattle.resp_capture.specs.Headers.{IsFour, link_of}
use Rattle.resp_capture.specs.Numbers.{number16, number32}
use Rattle.resp_capture.specs.Segments.{HasSegment}
use Rattle.resp_capture.specs.declared.address.IpAddress.{IpAddress}
use Rattle.resp_capture.specs.declared.address.IpAddress.TheVariants.{Four, Six}
use Rattle.resp_capture.specs.declared.link.LinkType.TheVariants.{Raw}
use Rattle.resp_capture.specs.declared.number.ByteOrder.TheVariants.{Big}
use Rattle.resp_capture.specs.declared.time.Time.{Time}
use Rattle.resp_capture.specs.declared.transport.Segment.{Segment}

-- The head of a file: its numbers are big-endian, a second has 1,000,000,000 ticks, and a record is a packet alone.
pub record IsFileHead (bytes : List ℕ) : Type 0 where
  pub whole : first_size bytes ≡ Ok (length bytes)
  pub magic_is : magic_of (number32 Big 0 bytes) ≡ Some (record { order = Big; per_second = 1000000000 })
  pub link_is : link_of (number32 Big 20 bytes % 65536) ≡ Some Raw

-- the address is of version 4
abbrev pub IsAddressFour : IpAddress → Type 0
IsAddressFour (Four number) = Unit {0}
IsAddressFour (Six high low) = ⊥

-- the segment fits into a packet of version 4
pub record CanBeRecorded (segment : Segment) : Type 0 where
  pub from_four : IsAddressFour segment.from.address
  pub to_four : IsAddressFour segment.to.address
  pub fits : length segment.data.now ≤ 65495

-- the sum of the ten numbers in the head of a packet of version 4
abbrev pub words_sum : List ℕ → ℕ
words_sum bytes = number16 Big 0 bytes + number16 Big 2 bytes + number16 Big 4 bytes + number16 Big 6 bytes +
    number16 Big 8 bytes + number16 Big 10 bytes + number16 Big 12 bytes + number16 Big 14 bytes +
    number16 Big 16 bytes + number16 Big 18 bytes

-- The bytes are a whole record, as the reader finds its end, with the time of a packet, of which all bytes were
-- captured. The packet carries the segment, as the reader finds it. The checksum of its first head is right.
pub record IsRecordOf (bytes : List ℕ) (time : Time) (segment : Segment) : Type 0 where
  pub whole : record_size Big bytes ≡ Ok (length bytes)
  pub seconds_are : number32 Big 0 bytes ≡ time.seconds % 2 ^ 32
  pub nanos_are : number32 Big 4 bytes ≡ time.nanos
  pub all_captured : number32 Big 12 bytes ≡ number32 Big 8 bytes
  pub four : IsFour (drop 16 bytes)
  pub segment_is : HasSegment Raw (drop 16 bytes) segment
  pub checked : words_sum (drop 16 bytes) % 65535 ≡ 0

-- the segments have the same ends, numbers, flags and bytes
pub record IsSameSegment (one other : Segment) : Type 0 where
  pub same_from_address : one.from.address ≡ other.from.address
  pub same_from_port : one.from.port ≡ other.from.port
  pub same_to_address : one.to.address ≡ other.to.address
  pub same_to_port : one.to.port ≡ other.to.port
  pub same_sequence : one.sequence ≡ other.sequence
  pub same_begins : one.begins ≡ other.begins
  pub same_acknowledges : one.acknowledges ≡ other.acknowledges
  pub same_ends : one.ends ≡ other.ends
  pub same_resets : one.resets ≡ other.resets
  pub same_data : one.data.now ≡ other.data.now

-- the segment that is found in a written record is the one that was written
abbrev pub SegmentsAreReadBack : Type 0
SegmentsAreReadBack = (bytes : List ℕ) (time : Time) (segment found : Segment) → IsRecordOf bytes time segment →
    HasSegment Raw (drop 16 bytes) found → IsSameSegment found segment

-- and so is its time, if that is before the year 2106
abbrev pub TimesAreReadBack : Type 0
TimesAreReadBack = (bytes : List ℕ) (time found : Time) (segment : Segment) → IsRecordOf bytes time segment →
    time.seconds < 2 ^ 32 → time.nanos < 1000000000 →
    IsTime (number32 Big 0 bytes) (number32 Big 4 bytes) 1000000000 found →
    (found.seconds ≡ time.seconds) × (found.nanos ≡ time.nanos)
