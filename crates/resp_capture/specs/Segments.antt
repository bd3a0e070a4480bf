-- Segments of TCP in packets.
use Rattle.std.specs.Prelude.{◌≡◌, ℕ, ◌/◌, ◌%◌, ◌==◌, List, drop, slice_index}
use Rattle.resp_capture.specs.Headers.{CarriesPacket, CarriesTcp, IsFragment, IsTcp, head_tcp}
use Rattle.resp_capture.specs.Numbers.{number16, number32}
use Rattle.resp_capture.specs.declared.address.IpAddress.{IpAddress}
use Rattle.resp_capture.specs.declared.link.LinkType.{LinkType}
use Rattle.resp_capture.specs.declared.number.ByteOrder.TheVariants.{Big}
use Rattle.resp_capture.specs.declared.packet.Packet.{Packet}
use Rattle.resp_capture.specs.declared.packet.Packet.TheVariants as carried
use Rattle.resp_capture.specs.declared.transport.Segment.{Segment}

-- the bytes that were sent from one address to another are this segment
pub record IsSegment (from to : IpAddress) (bytes : List ℕ) (segment : Segment) : Type 0 where
  pub tcp : IsTcp bytes
  pub from_address : segment.from.address ≡ from
  pub from_port : segment.from.port ≡ number16 Big 0 bytes
  pub to_address : segment.to.address ≡ to
  pub to_port : segment.to.port ≡ number16 Big 2 bytes
  pub sequence_is : segment.sequence ≡ number32 Big 4 bytes
  pub begins_is : segment.begins ≡ ((slice_index bytes 13 / 2) % 2 == 1)
  pub acknowledges_is : segment.acknowledges ≡ ((slice_index bytes 13 / 16) % 2 == 1)
  pub ends_is : segment.ends ≡ (slice_index bytes 13 % 2 == 1)
  pub resets_is : segment.resets ≡ ((slice_index bytes 13 / 4) % 2 == 1)
  pub data_is : segment.data.now ≡ drop (head_tcp bytes) bytes

-- the frame of this link carries the segment
pub record HasSegment (link : LinkType) (frame : List ℕ) (segment : Segment) : Type 0 where
  pub packet : List ℕ
  pub carries : CarriesPacket link frame packet
  pub from : IpAddress
  pub to : IpAddress
  pub bytes : List ℕ
  pub tcp : CarriesTcp packet from to bytes
  pub segment_is : IsSegment from to bytes segment

-- the frame of this link carries a fragment
pub record HasFragment (link : LinkType) (frame : List ℕ) : Type 0 where
  pub packet : List ℕ
  pub carries : CarriesPacket link frame packet
  pub fragment : IsFragment packet

-- this is true of the segment, if the packet is one
abbrev pub IfSegment : Packet → (Segment → Type 0) → Type 0
IfSegment (carried.Segment segment) P = P segment
IfSegment carried.Fragment P = Unit {0}
IfSegment carried.Other P = Unit {0}

-- this is true if the packet is no segment
abbrev pub UnlessSegment : Packet → Type 0 → Type 0
UnlessSegment (carried.Segment segment) P = Unit {0}
UnlessSegment carried.Fragment P = P
UnlessSegment carried.Other P = P

-- this is true if the packet is a fragment
abbrev pub IfFragment : Packet → Type 0 → Type 0
IfFragment (carried.Segment segment) P = Unit {0}
IfFragment carried.Fragment P = P
IfFragment carried.Other P = Unit {0}
