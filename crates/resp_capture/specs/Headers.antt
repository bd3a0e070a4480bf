-- The heads in a frame of a capture: of the link, of the internet protocol and of TCP.
use Rattle.std.specs.Prelude.{◌≡◌, ◌⊎◌, ℕ, zero, suc, ◌+◌, ◌*◌, ◌/◌, ◌%◌, ◌<◌, ◌≤◌, ◌==◌, ◌||◌, Bool, List, false, Option, None, Some, drop, if◌then◌else◌, length, min, slice_index, take, true}
use Rattle.resp_capture.specs.Numbers.{number16, number32, number64}
use Rattle.resp_capture.specs.declared.address.IpAddress.{IpAddress}
use Rattle.resp_capture.specs.declared.address.IpAddress.TheVariants.{Four, Six}
use Rattle.resp_capture.specs.declared.link.LinkType.{LinkType}
use Rattle.resp_capture.specs.declared.link.LinkType.TheVariants.{Loopback, Ethernet, Raw, Cooked, CookedTwo}
use Rattle.resp_capture.specs.declared.number.ByteOrder.TheVariants.{Big}

-- the link with this number in the files
abbrev pub link_of : ℕ → Option LinkType
link_of n = if (n == 0) || (n == 108) then Some Loopback else
    (if n == 1 then Some Ethernet else
    (if (n == 101) || (n == 228) || (n == 229) then Some Raw else
    (if n == 113 then Some Cooked else
    (if n == 276 then Some CookedTwo else None))))

-- a type of Ethernet is that of a tag
abbrev pub is_tag : ℕ → Bool
is_tag n = (n == 33024) || (n == 34984)

-- a type of Ethernet is that of version 4 or version 6 of the internet protocol
abbrev pub is_internet : ℕ → Bool
is_internet n = (n == 2048) || (n == 34525)

-- the place of the type in a frame of Ethernet, after at most two tags of four bytes
abbrev pub type_place : List ℕ → ℕ
type_place frame = if is_tag (number16 Big 12 frame) then (if is_tag (number16 Big 16 frame) then 20 else 16) else 12

-- a head of so many bytes, with a type of the internet protocol at this place of it, and then the packet
pub record IsTyped (place head : ℕ) (frame packet : List ℕ) : Type 0 where
  pub whole : head ≤ length frame
  pub type : is_internet (number16 Big place frame) ≡ true
  pub packet_is : packet ≡ drop head frame

-- the frame of this link carries the packet
abbrev pub CarriesPacket : LinkType → List ℕ → List ℕ → Type 0
CarriesPacket Loopback frame packet = (4 ≤ length frame) × (packet ≡ drop 4 frame)
CarriesPacket Ethernet frame packet = (22 ≤ length frame) × IsTyped (type_place frame) (type_place frame + 2) frame packet
CarriesPacket Raw frame packet = packet ≡ frame
CarriesPacket Cooked frame packet = IsTyped 14 16 frame packet
CarriesPacket CookedTwo frame packet = IsTyped 0 20 frame packet

-- the number of bytes of the head of a packet of version 4
abbrev pub head_four : List ℕ → ℕ
head_four packet = (slice_index packet 0 % 16) * 4

-- The end of a packet of version 4: the length in its head, or the end of the bytes that were captured. Some cards
-- leave the length 0, and bytes that pad the frame come after it.
abbrev pub end_four : List ℕ → ℕ
end_four packet = if number16 Big 2 packet == 0 then length packet else min (number16 Big 2 packet) (length packet)

-- the packet is of version 4 and has a whole head
pub record IsFour (packet : List ℕ) : Type 0 where
  pub least : 20 ≤ length packet
  pub version : slice_index packet 0 / 16 ≡ 4
  pub head : 20 ≤ head_four packet
  pub whole : head_four packet ≤ end_four packet

-- further fragments of the packet come, or its place among the fragments is not 0
abbrev pub IsFragmentFour : List ℕ → Type 0
IsFragmentFour packet = 0 < number16 Big 6 packet % 16384

-- a packet of version 4 carries these bytes of TCP from one address to another
pub record CarriesFour (packet : List ℕ) (from to : IpAddress) (bytes : List ℕ) : Type 0 where
  pub four : IsFour packet
  pub whole : number16 Big 6 packet % 16384 ≡ 0
  pub protocol : slice_index packet 9 ≡ 6
  pub from_is : from ≡ Four (number32 Big 12 packet)
  pub to_is : to ≡ Four (number32 Big 16 packet)
  pub bytes_are : bytes ≡ drop (head_four packet) (take (end_four packet) packet)

-- a header of version 6 is followed by another one: that for each hop (0), of routes (43) or for the destination (60)
abbrev pub is_extension : ℕ → Bool
is_extension next = (next == 0) || ((next == 43) || (next == 60))

-- the number of bytes of such a header
abbrev pub extension_size : List ℕ → ℕ
extension_size bytes = (slice_index bytes 1 + 1) * 8

-- such a header is whole
pub record IsExtension (bytes : List ℕ) : Type 0 where
  pub least : 8 ≤ length bytes
  pub whole : extension_size bytes ≤ length bytes

-- after so many headers of version 6 that are followed by others, these bytes of a protocol come
abbrev pub ReachesAfter : ℕ → ℕ → List ℕ → ℕ → List ℕ → Type 0
ReachesAfter zero next bytes protocol rest = (is_extension next ≡ false) × (protocol ≡ next) × (rest ≡ bytes)
ReachesAfter (suc count) next bytes protocol rest = (is_extension next ≡ true) × IsExtension bytes ×
    ReachesAfter count (slice_index bytes 0) (drop (extension_size bytes) bytes) protocol rest

-- after at most so many headers that are followed by others, these bytes of a protocol come
pub record Reaches (most next : ℕ) (bytes : List ℕ) (protocol : ℕ) (rest : List ℕ) : Type 0 where
  pub count : ℕ
  pub within : count ≤ most
  pub reaches : ReachesAfter count next bytes protocol rest

-- the end of a packet of version 6: the length in its head, or the end of the bytes that were captured
abbrev pub end_six : List ℕ → ℕ
end_six packet = if number16 Big 4 packet == 0 then length packet else min (40 + number16 Big 4 packet) (length packet)

-- the packet is of version 6 and has a whole head
pub record IsSix (packet : List ℕ) : Type 0 where
  pub least : 40 ≤ length packet
  pub version : slice_index packet 0 / 16 ≡ 6

-- a packet of version 6 carries these bytes of a protocol, after at most eight headers
pub record CarriesSix (packet : List ℕ) (protocol : ℕ) (bytes : List ℕ) : Type 0 where
  pub six : IsSix packet
  pub reaches : Reaches 8 (slice_index packet 6) (drop 40 (take (end_six packet) packet)) protocol bytes

-- the addresses of a packet of version 6
abbrev pub address_six : ℕ → List ℕ → IpAddress
address_six at packet = Six (number64 Big at packet) (number64 Big (at + 8) packet)

-- a packet of version 6 is a fragment
abbrev pub IsFragmentSix : List ℕ → Type 0
IsFragmentSix packet = (bytes : List ℕ) × CarriesSix packet 44 bytes

-- a packet of version 6 carries these bytes of TCP from one address to another
pub record CarriesTcpInSix (packet : List ℕ) (from to : IpAddress) (bytes : List ℕ) : Type 0 where
  pub carries : CarriesSix packet 6 bytes
  pub from_is : from ≡ address_six 8 packet
  pub to_is : to ≡ address_six 24 packet

-- the number of bytes of the head of a segment
abbrev pub head_tcp : List ℕ → ℕ
head_tcp bytes = slice_index bytes 12 / 16 * 4

-- the bytes are a segment of TCP with a whole head
pub record IsTcp (bytes : List ℕ) : Type 0 where
  pub least : 20 ≤ length bytes
  pub head : 20 ≤ head_tcp bytes
  pub whole : head_tcp bytes ≤ length bytes

-- the packet is a fragment
abbrev pub IsFragment : List ℕ → Type 0
IsFragment packet = (IsFour packet × IsFragmentFour packet) ⊎ IsFragmentSix packet

-- a packet carries these bytes of TCP from one address to another
abbrev pub CarriesTcp : List ℕ → IpAddress → IpAddress → List ℕ → Type 0
CarriesTcp packet from to bytes = CarriesFour packet from to bytes ⊎ CarriesTcpInSix packet from to bytes
