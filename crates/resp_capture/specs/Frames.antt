-- The packets in the blocks of a capture, and the interfaces that its blocks describe.
use Rattle.std.specs.Prelude.{◌≡◌, ◌⊎◌, ℕ, ◌+◌, ◌-◌, ◌*◌, ◌/◌, ◌%◌, ◌^◌, ◌<◌, ◌≤◌, ◌==◌, ◌||◌, Bool, true, zero, suc, ℤ, pos, ◌+ℤ◌, List, Option, None, Some, drop, if◌then◌else◌, length, ltb, min, slice_get, slice_index, slice_range}
use Rattle.std.specs.Int.{cast_signed, saturate_unsigned, w64}
use Rattle.resp_capture.specs.Headers.{link_of}
use Rattle.resp_capture.specs.Numbers.{number16, number32, number64}
use Rattle.resp_capture.specs.declared.capture.CapturedPacket.{CapturedPacket}
use Rattle.resp_capture.specs.declared.error.Reason.{Reason}
use Rattle.resp_capture.specs.declared.error.Reason.TheVariants.{UnknownInterface, UnknownResolution, WrongLength}
use Rattle.resp_capture.specs.declared.interface.Interface.{Interface}
use Rattle.resp_capture.specs.declared.number.ByteOrder.{ByteOrder}
use Rattle.resp_capture.specs.declared.time.Time.{Time}

-- this number, or 0 if it has more than 64 bits
abbrev pub or_zero : ℕ → ℕ
or_zero n = if ltb n (2 ^ 64) then n else 0

-- the ticks of a second by the option with this byte: a power of ten, or with the first bit a power of two
abbrev pub ticks_of : ℕ → ℕ
ticks_of byte = if ltb byte 128 then or_zero (10 ^ byte) else or_zero (2 ^ (byte - 128))

-- the place of the option after the one with which these options begin: its bytes are padded to a multiple of four
abbrev pub next_option : ByteOrder → List ℕ → ℕ
next_option order options = 4 + (number16 order 2 options + 3) / 4 * 4

-- The options begin with the one of this code, which has at least so many bytes. These are the first of them. The code 0 ends the
-- options.
pub record IsOption (order : ByteOrder) (code least : ℕ) (options bytes : List ℕ) : Type 0 where
  pub no_end : 0 < code
  pub whole : 4 + least ≤ length options
  pub code_is : number16 order 0 options ≡ code
  pub long : least ≤ number16 order 2 options
  pub bytes_are : bytes ≡ slice_range options 4 (4 + least)

-- the options begin with another one, which is not the last
pub record IsOtherOption (order : ByteOrder) (code least : ℕ) (options : List ℕ) : Type 0 where
  pub whole : 4 ≤ length options
  pub more : 0 < number16 order 0 options
  pub short : (number16 order 0 options ≡ code) → number16 order 2 options < least
  pub within : next_option order options ≤ length options

-- after so many other options, the one of this code begins with these bytes
abbrev pub OptionAfter : ℕ → ByteOrder → ℕ → ℕ → List ℕ → List ℕ → Type 0
OptionAfter zero order code least options bytes = IsOption order code least options bytes
OptionAfter (suc count) order code least options bytes = IsOtherOption order code least options ×
    OptionAfter count order code least (drop (next_option order options) options) bytes

-- one of the options has this code and at least so many bytes, and begins with these bytes
abbrev pub HasOption : ByteOrder → ℕ → ℕ → List ℕ → List ℕ → Type 0
HasOption order code least options bytes = (count : ℕ) × OptionAfter count order code least options bytes

-- one of the options is that of the ticks of a second, and has this byte
abbrev pub HasResolution : ByteOrder → List ℕ → ℕ → Type 0
HasResolution order options byte = (bytes : List ℕ) × HasOption order 9 1 options bytes × (byte ≡ slice_index bytes 0)

-- one of the options is that of the seconds that are added to each time, and has this number
abbrev pub HasOffset : ByteOrder → List ℕ → ℤ → Type 0
HasOffset order options offset = (bytes : List ℕ) × HasOption order 14 8 options bytes ×
    (offset ≡ cast_signed w64 (number64 order 0 bytes))

-- the options of a block that describes an interface
abbrev pub options_of : List ℕ → List ℕ
options_of block = slice_range block 16 (length block - 4)

-- the interface that a block of the format pcapng describes
pub record IsDescribed (order : ByteOrder) (block : List ℕ) (interface : Interface) : Type 0 where
  pub link_is : interface.link ≡ link_of (number16 order 8 block)
  pub most_is : interface.most ≡ number32 order 12 block
  pub ticks : (byte : ℕ) → HasResolution order (options_of block) byte → interface.per_second ≡ ticks_of byte
  pub micros : ((byte : ℕ) → HasResolution order (options_of block) byte → ⊥) → interface.per_second ≡ 1000000
  pub offset_is : (offset : ℤ) → HasOffset order (options_of block) offset → interface.offset ≡ offset
  pub no_offset : ((offset : ℤ) → HasOffset order (options_of block) offset → ⊥) → interface.offset ≡ pos 0

-- the time of a number of ticks, of which a second has so many, after a number of seconds
pub record IsTime (seconds ticks per_second : ℕ) (time : Time) : Type 0 where
  pub seconds_is : time.seconds ≡ seconds + ticks / per_second
  pub nanos_is : time.nanos ≡ ((ticks % per_second) * 1000000000) / per_second

-- the time of a number of ticks of an interface, which adds a number of seconds to it, between 0 and 2^64 - 1
pub record IsTimeOn (interface : Interface) (ticks : ℕ) (time : Time) : Type 0 where
  pub seconds_is : time.seconds ≡ saturate_unsigned w64 (pos (ticks / interface.per_second) +ℤ interface.offset)
  pub nanos_is : time.nanos ≡ ((ticks % interface.per_second) * 1000000000) / interface.per_second

-- the packet of a record of the format pcap, whose packets have this link and this many ticks of a second
pub record IsRecord (order : ByteOrder) (interface : Interface) (block : List ℕ) (frame : CapturedPacket) : Type 0 where
  pub whole : 16 ≤ length block
  pub has_ticks : 0 < interface.per_second
  pub time : Time
  pub has_time : frame.time ≡ Some time
  pub time_is : IsTime (number32 order 0 block) (number32 order 4 block) interface.per_second time
  pub link_is : interface.link ≡ Some frame.link
  pub bytes_are : frame.bytes.now ≡ drop 16 block

-- the packet of a record of the format pcap, whose packets are those of the first of these interfaces
abbrev pub HasRecord : ByteOrder → List Interface → List ℕ → CapturedPacket → Type 0
HasRecord order interfaces block frame = (interface : Interface) × (slice_get interfaces 0 ≡ Some interface) ×
    IsRecord order interface block frame

-- the block has a packet and its time: it is an enhanced packet block, or the older packet block
abbrev pub has_time : ByteOrder → List ℕ → Bool
has_time order block = (number32 order 0 block == 6) || (number32 order 0 block == 2)

-- the number of the interface of the packet of such a block; in the older one it has 16 bits
abbrev pub interface_in : ByteOrder → List ℕ → ℕ
interface_in order block = if number32 order 0 block == 2 then number16 order 8 block else number32 order 8 block

-- the ticks at which the packet of such a block was captured
abbrev pub ticks_in : ByteOrder → List ℕ → ℕ
ticks_in order block = number32 order 12 block * 4294967296 + number32 order 16 block

-- the packet of a block with a packet and its time, of one of these interfaces
pub record IsEnhanced (order : ByteOrder) (interfaces : List Interface) (block : List ℕ) (frame : CapturedPacket) : Type 0 where
  pub kind : has_time order block ≡ true
  pub interface : Interface
  pub has_interface : slice_get interfaces (interface_in order block) ≡ Some interface
  pub has_ticks : 0 < interface.per_second
  pub time : Time
  pub has_time : frame.time ≡ Some time
  pub time_is : IsTimeOn interface (ticks_in order block) time
  pub link_is : interface.link ≡ Some frame.link
  pub within : number32 order 20 block + 32 ≤ length block
  pub bytes_are : frame.bytes.now ≡ slice_range block 28 (28 + number32 order 20 block)

-- the number of bytes of the packet of a simple packet block: as many as the packet has, or as were captured at most
abbrev pub simple_count : ByteOrder → ℕ → List ℕ → ℕ
simple_count order most block = min (if most == 0 then number32 order 8 block else min most (number32 order 8 block))
    (length block - 16)

-- the packet of a simple packet block, of the first of these interfaces. It has no time.
pub record IsSimple (order : ByteOrder) (interfaces : List Interface) (block : List ℕ) (frame : CapturedPacket) : Type 0 where
  pub kind : number32 order 0 block ≡ 3
  pub whole : 16 ≤ length block
  pub interface : Interface
  pub has_interface : slice_get interfaces 0 ≡ Some interface
  pub no_time : frame.time ≡ None
  pub link_is : interface.link ≡ Some frame.link
  pub bytes_are : frame.bytes.now ≡ slice_range block 12 (12 + simple_count order interface.most block)

-- the packet of a block of the format pcapng
abbrev pub IsFrame : ByteOrder → List Interface → List ℕ → CapturedPacket → Type 0
IsFrame order interfaces block frame = IsEnhanced order interfaces block frame ⊎ IsSimple order interfaces block frame

-- no packet is one of these
abbrev pub HasNo : (CapturedPacket → Type 0) → Type 0
HasNo IsOne = (frame : CapturedPacket) → IsOne frame → ⊥

-- ---- blocks with a fault

abbrev pub fault_of_record : Option Interface → List ℕ → Option Reason
fault_of_record None block = Some UnknownInterface
fault_of_record (Some interface) block = if ltb (length block) 16 || (interface.per_second == 0) then Some WrongLength else None

abbrev pub fault_of_enhanced : ByteOrder → Option Interface → List ℕ → Option Reason
fault_of_enhanced order None block = Some UnknownInterface
fault_of_enhanced order (Some interface) block = if interface.per_second == 0 then Some UnknownResolution else
    (if ltb (length block) (number32 order 20 block + 32) then Some WrongLength else None)

abbrev pub fault_of_simple : Option Interface → Option Reason
fault_of_simple None = Some UnknownInterface
fault_of_simple (Some interface) = None

-- why the packet of a whole block of the format pcapng cannot be read; nothing if it can, or the block has no packet
abbrev pub fault_of_frame : ByteOrder → List Interface → List ℕ → Option Reason
fault_of_frame order interfaces block = if ltb (length block) 12 then Some WrongLength else
    (if has_time order block then (if ltb (length block) 32 then Some WrongLength else
    fault_of_enhanced order (slice_get interfaces (interface_in order block)) block) else
    (if number32 order 0 block == 3 then (if ltb (length block) 16 then Some WrongLength else
    fault_of_simple (slice_get interfaces 0)) else None))
