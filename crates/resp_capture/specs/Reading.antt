-- How a capture is read: one block after another.
use Rattle.std.specs.Prelude.{◌≡◌, ◌⊎◌, ℕ, ◌+◌, ◌%◌, ◌<◌, ◌≤◌, ◌==◌, ◌&&◌, Bool, pos, true, false, List, [], ◌∷◌, ◌++◌, Option, None, Some, Result, Ok, Err, cond, if◌then◌else◌, length, ltb, min, slice_get, take, unwrap_or}
use Rattle.resp_capture.specs.Blocks.{magic_of, section_order, size_of}
use Rattle.resp_capture.specs.Headers.{link_of}
use Rattle.resp_capture.specs.Numbers.{number32}
use Rattle.resp_capture.specs.Frames.{HasRecord, IsDescribed, IsFrame, fault_of_frame, fault_of_record}
use Rattle.resp_capture.specs.declared.block.Format.{Format}
use Rattle.resp_capture.specs.declared.block.Format.TheVariants as format
use Rattle.resp_capture.specs.declared.block.Magic.{Magic}
use Rattle.resp_capture.specs.declared.error.Reason.{Reason}
use Rattle.resp_capture.specs.declared.error.Reason.TheVariants.{Cut, NotACapture, OutOfMemory, UnknownLink, WrongLength}
use Rattle.resp_capture.specs.declared.interface.Interface.{Interface}
use Rattle.resp_capture.specs.declared.link.LinkType.{LinkType}
use Rattle.resp_capture.specs.declared.number.ByteOrder.{ByteOrder}
use Rattle.resp_capture.specs.declared.number.ByteOrder.TheVariants.{Big}
use Rattle.resp_capture.specs.declared.capture.CapturedPacket.{CapturedPacket}
use Rattle.resp_capture.specs.declared.capture.Capture.{Capture}

-- the bytes of the block that is read next
abbrev pub begun_bytes : Capture → List ℕ
begun_bytes capture = cond capture.is_whole [] capture.held.items

-- the byte of the file at which the block begins that is read next
abbrev pub next_at : Capture → ℕ
next_at capture = cond capture.is_whole (min (capture.at + length capture.held.items) 18446744073709551615) capture.at

-- the block is whole: it has as many bytes as its head says
abbrev pub IsWholeBlock : Format → List ℕ → Type 0
IsWholeBlock format bytes = size_of format bytes ≡ Ok (length bytes)

-- the block is not whole: its head says that it has more bytes, or its head is not whole
pub record IsBegunBlock (format : Format) (bytes : List ℕ) : Type 0 where
  pub size : ℕ
  pub said : size_of format bytes ≡ Ok size
  pub more : length bytes < size

-- ---- what a whole block says of the blocks after it

-- the block is the first one of a section of the format pcapng
abbrev pub is_section : List ℕ → Bool
is_section bytes = number32 Big 0 bytes == 0x0a0d_0d0a

-- the format of a file after a block of the format pcapng with numbers in this order
abbrev pub format_after_block : Format → ByteOrder → List ℕ → Format
format_after_block before order bytes =
    if is_section bytes then format.Pcapng (unwrap_or (section_order (number32 Big 8 bytes)) order) else before

abbrev pub format_after_first : Option Magic → List ℕ → Format
format_after_first (Some magic) bytes = format.Pcap magic.order
format_after_first None bytes = format_after_block format.Unknown Big bytes

-- the format of a file after a block, which its first block says, and each block that begins a section
abbrev pub format_after : Format → List ℕ → Format
format_after format.Unknown bytes = format_after_first (magic_of (number32 Big 0 bytes)) bytes
format_after (format.Pcap order) bytes = format.Pcap order
format_after (format.Pcapng order) bytes = format_after_block (format.Pcapng order) order bytes

-- the one interface of a file of the format pcap, by its first block
pub record IsOfFile (magic : Magic) (bytes : List ℕ) (interface : Interface) : Type 0 where
  pub link_is : interface.link ≡ link_of (number32 magic.order 20 bytes % 65536)
  pub ticks_are : interface.per_second ≡ magic.per_second
  pub no_offset : interface.offset ≡ pos 0

-- one interface was added, of which this is true
abbrev pub IsAdded : (Interface → Type 0) → List Interface → List Interface → Type 0
IsAdded IsOne old new = (interface : Interface) × IsOne interface × (new ≡ old ++ interface ∷ [])

-- the interfaces after a block of the format pcapng: those of another section are forgotten
pub record InterfacesAfterBlock (order : ByteOrder) (bytes : List ℕ) (old new : List Interface) : Type 0 where
  pub section : is_section bytes ≡ true → new ≡ []
  pub described : is_section bytes ≡ false → number32 order 0 bytes ≡ 1 → IsAdded (IsDescribed order bytes) old new
  pub others : is_section bytes ≡ false → (number32 order 0 bytes ≡ 1 → ⊥) → new ≡ old

abbrev pub InterfacesAfterFirst : Option Magic → List ℕ → List Interface → List Interface → Type 0
InterfacesAfterFirst (Some magic) bytes old new = IsAdded (IsOfFile magic bytes) old new
InterfacesAfterFirst None bytes old new = InterfacesAfterBlock Big bytes old new

-- the interfaces of a file after a whole block
abbrev pub InterfacesAfter : Format → List ℕ → List Interface → List Interface → Type 0
InterfacesAfter format.Unknown bytes old new = InterfacesAfterFirst (magic_of (number32 Big 0 bytes)) bytes old new
InterfacesAfter (format.Pcap order) bytes old new = new ≡ old
InterfacesAfter (format.Pcapng order) bytes old new = InterfacesAfterBlock order bytes old new

-- The first bytes of a piece were read. They follow the bytes of the block that were read before. No byte after the block was
-- read, and all bytes of a block that is not whole are held.
pub record ReadsBlock (old new : Capture) (piece : List ℕ) (count : ℕ) : Type 0 where
  pub within : count ≤ length piece
  pub bytes : new.held.items ≡ begun_bytes old ++ take count piece
  pub bounded : length new.held.items ≤ 1048576
  pub whole : new.is_whole ≡ true → IsWholeBlock old.format new.held.items
  pub begun : new.is_whole ≡ false → IsBegunBlock old.format new.held.items
  pub same_format : new.is_whole ≡ false → new.format ≡ old.format
  pub same_interfaces : new.is_whole ≡ false → new.interfaces.items ≡ old.interfaces.items
  pub format_is : new.is_whole ≡ true → new.format ≡ format_after old.format new.held.items
  pub interfaces_are : new.is_whole ≡ true → InterfacesAfter old.format new.held.items old.interfaces.items new.interfaces.items

-- ---- blocks that are not read on

-- why a file of the format pcapng is not read on after a whole block with numbers in this order
abbrev pub fault_of_pcapng : ByteOrder → List ℕ → Option Reason
fault_of_pcapng order bytes = if ltb (length bytes) 12 then Some WrongLength else
    (if number32 Big 0 bytes == 0x0a0d_0d0a then None else
    (if (number32 order 0 bytes == 1) && ltb (length bytes) 20 then Some WrongLength else None))

-- the packets of a file have a link of this number, which may be no link that is read
abbrev pub fault_of_link : Option LinkType → ℕ → Option Reason
fault_of_link (Some link) number = None
fault_of_link None number = Some (UnknownLink number)

-- why a file is not read on after its first block, if its first number says this
abbrev pub fault_of_magic : Option Magic → List ℕ → Option Reason
fault_of_magic (Some magic) bytes =
    fault_of_link (link_of (number32 magic.order 20 bytes % 65536)) (number32 magic.order 20 bytes % 65536)
fault_of_magic None bytes = fault_of_pcapng Big bytes

-- why a file is not read on after a whole block; nothing if it is
abbrev pub fault_of_block : Format → List ℕ → Option Reason
fault_of_block format.Unknown bytes = if ltb (length bytes) 24 then Some NotACapture else
    fault_of_magic (magic_of (number32 Big 0 bytes)) bytes
fault_of_block (format.Pcap order) bytes = None
fault_of_block (format.Pcapng order) bytes = fault_of_pcapng order bytes

abbrev pub fault_of_sized : Result ℕ Reason → Format → List ℕ → Option Reason
fault_of_sized (Err reason) format bytes = Some reason
fault_of_sized (Ok size) format bytes = if ltb size (length bytes) then Some WrongLength else
    (if size == length bytes then fault_of_block format bytes else None)

-- why a file is not read on after these bytes of a block, because of the size that they say or because of the whole block;
-- nothing if it is
abbrev pub fault_of : Format → List ℕ → Option Reason
fault_of format bytes = fault_of_sized (size_of format bytes) format bytes

-- why a call has failed, if one has
abbrev pub failure_of : Capture → Option Reason
failure_of capture = capture.failure

-- the block has all its bytes, so no byte of it is read
pub record HasAllBytes (format : Format) (bytes : List ℕ) (reason : Reason) : Type 0 where
  pub size : ℕ
  pub said : size_of format bytes ≡ Ok size
  pub all : size ≤ length bytes
  pub reason_is : reason ≡ WrongLength

-- The next bytes, as many as this, are bytes of the block that begins with these bytes. The block has at least so many bytes as
-- its head says, or as its head has while that is not whole.
pub record AreOfBlock (format : Format) (bytes : List ℕ) (count : ℕ) : Type 0 where
  pub size : ℕ
  pub said : size_of format bytes ≡ Ok size
  pub within : length bytes + count ≤ size

-- Bytes of the block were read, and then memory was out, or the block has a fault. No byte after the block was read. What was read
-- of the file before is kept.
pub record StopsAt (old new : Capture) (piece : List ℕ) (reason : Reason) : Type 0 where
  pub count : ℕ
  pub within : count ≤ length piece
  pub bytes : new.held.items ≡ begun_bytes old ++ take count piece
  pub of_block : (count ≡ 0) ⊎ AreOfBlock old.format (begun_bytes old) count
  pub not_whole : new.is_whole ≡ false
  pub same_format : new.format ≡ old.format
  pub same_interfaces : new.interfaces.items ≡ old.interfaces.items
  pub why : (reason ≡ OutOfMemory) ⊎ (fault_of old.format new.held.items ≡ Some reason) ⊎
      HasAllBytes old.format (begun_bytes old) reason

-- The file is not read on: a call before has failed, for the same reason, or this call stops at a fault.
abbrev pub IsNotReadOn : Option Reason → Capture → Capture → List ℕ → Reason → Type 0
IsNotReadOn (Some before) old new piece reason = (reason ≡ before) × (new.held.items ≡ begun_bytes old)
IsNotReadOn None old new piece reason = StopsAt old new piece reason

-- Bytes were read without a fault, and no call before has failed.
abbrev pub HasNoFault : Capture → Capture → Type 0
HasNoFault old new = (failure_of old ≡ None) × (fault_of old.format new.held.items ≡ None)

-- the capture ends after a whole block
abbrev pub IsAtEnd : Capture → Type 0
IsAtEnd capture = capture.is_whole ≡ true

abbrev pub end_fault_of : Format → ℕ → Reason
end_fault_of format.Unknown count = if ltb count 4 then NotACapture else Cut
end_fault_of (format.Pcap order) count = Cut
end_fault_of (format.Pcapng order) count = Cut

-- why a file that ends inside a block is refused: it is cut, or it has too few bytes to be a capture
abbrev pub end_fault : Capture → Reason
end_fault capture = end_fault_of capture.format (length capture.held.items)

-- the packet of this block, by the format of the file; the first block of the format pcap has no packet
abbrev pub HasFrameIn : Format → Capture → CapturedPacket → Type 0
HasFrameIn format.Unknown capture frame = ⊥
HasFrameIn (format.Pcap order) capture frame = (0 < capture.at) × HasRecord order capture.interfaces.items capture.held.items frame
HasFrameIn (format.Pcapng order) capture frame = IsFrame order capture.interfaces.items capture.held.items frame

-- the last block that was read is whole, and has this packet
abbrev pub HasFrame : Capture → CapturedPacket → Type 0
HasFrame capture frame = (capture.is_whole ≡ true) × HasFrameIn capture.format capture frame

abbrev pub packet_fault_in : Format → Capture → Option Reason
packet_fault_in format.Unknown capture = None
packet_fault_in (format.Pcap order) capture = if capture.at == 0 then None else
    fault_of_record (slice_get capture.interfaces.items 0) capture.held.items
packet_fault_in (format.Pcapng order) capture = fault_of_frame order capture.interfaces.items capture.held.items

-- why the packet of the last block that was read cannot be read; nothing if it can, or there is no packet
abbrev pub packet_fault : Capture → Option Reason
packet_fault capture = if capture.is_whole then packet_fault_in capture.format capture else None
