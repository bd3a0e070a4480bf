-- The blocks of a file of the format pcap or pcapng: how many bytes they have, and what they say.
use Rattle.std.specs.Prelude.{ℕ, ◌+◌, ◌%◌, ◌==◌, ◌||◌, List, Option, None, Some, Result, Ok, Err, if◌then◌else◌, is_some, length, ltb}
use Rattle.resp_capture.specs.Numbers.{number32}
use Rattle.resp_capture.specs.declared.block.Format.{Format}
use Rattle.resp_capture.specs.declared.block.Format.TheVariants as format
use Rattle.resp_capture.specs.declared.block.Magic.{Magic}
use Rattle.resp_capture.specs.declared.error.Reason.{Reason}
use Rattle.resp_capture.specs.declared.error.Reason.TheVariants.{NotACapture, TooLong, WrongLength}
use Rattle.resp_capture.specs.declared.number.ByteOrder.{ByteOrder}
use Rattle.resp_capture.specs.declared.number.ByteOrder.TheVariants.{Big, Little}

-- what the first number of a file of the format pcap says: the order of the numbers, and the ticks of a second
abbrev pub magic_of : ℕ → Option Magic
magic_of n = if n == 0xa1b2_c3d4 then Some (record { order = Big; per_second = 1000000 }) else
    (if n == 0xd4c3_b2a1 then Some (record { order = Little; per_second = 1000000 }) else
    (if n == 0xa1b2_3c4d then Some (record { order = Big; per_second = 1000000000 }) else
    (if n == 0x4d3c_b2a1 then Some (record { order = Little; per_second = 1000000000 }) else None)))

-- the order of the numbers of a section of the format pcapng, by its third number
abbrev pub section_order : ℕ → Option ByteOrder
section_order n = if n == 0x1a2b_3c4d then Some Big else (if n == 0x4d3c_2b1a then Some Little else None)

-- a number of bytes of a whole block, which the head of the block says
abbrev pub checked_size : ℕ → Result ℕ Reason
checked_size size = if ltb size 12 || ltb 0 (size % 4) then Err WrongLength else
    (if ltb 1048576 size then Err TooLong else Ok size)

-- the number of bytes of a block that begins a section with this order
abbrev pub section_size_said : Option ByteOrder → List ℕ → Result ℕ Reason
section_size_said None bytes = Err NotACapture
section_size_said (Some order) bytes = checked_size (number32 order 4 bytes)

-- The number of bytes of a block of the format pcapng whose first twelve bytes are these, in this order. A block that begins a
-- section has its own order.
abbrev pub block_size_said : ByteOrder → List ℕ → Result ℕ Reason
block_size_said order bytes = if number32 Big 0 bytes == 0x0a0d_0d0a
    then section_size_said (section_order (number32 Big 8 bytes)) bytes
    else checked_size (number32 order 4 bytes)

-- the number of bytes of a block of the format pcapng that begins with these bytes, or of as many as say it
abbrev pub pcapng_size : ByteOrder → List ℕ → Result ℕ Reason
pcapng_size order bytes = if ltb (length bytes) 12 then Ok 12 else block_size_said order bytes

-- the number of bytes of a record of the format pcap that begins with these bytes, or of as many as say it
abbrev pub record_size : ByteOrder → List ℕ → Result ℕ Reason
record_size order bytes = if ltb (length bytes) 16 then Ok 16 else
    (if ltb 1048576 (number32 order 8 bytes + 16) then Err TooLong else Ok (number32 order 8 bytes + 16))

-- the number of bytes of the first block of a file that begins with these bytes, or of as many as say it
abbrev pub first_size : List ℕ → Result ℕ Reason
first_size bytes = if ltb (length bytes) 4 then Ok 4 else
    (if is_some (magic_of (number32 Big 0 bytes)) then Ok 24 else
    (if number32 Big 0 bytes == 0x0a0d_0d0a then pcapng_size Big bytes else Err NotACapture))

-- the number of bytes of a block that begins with these bytes, or of as many as say it
abbrev pub size_of : Format → List ℕ → Result ℕ Reason
size_of format.Unknown bytes = first_size bytes
size_of (format.Pcap order) bytes = record_size order bytes
size_of (format.Pcapng order) bytes = pcapng_size order bytes
