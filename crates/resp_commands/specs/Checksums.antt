-- CRC-16/XMODEM: division by the polynomial x^16 + x^12 + x^5 + 1, whose coefficients are 0 or 1.
use Rattle.std.specs.Prelude.{ℕ, zero, suc, ◌-◌, ◌*◌, List, [], ◌∷◌, bit_xor, nat_lt, if◌then◌else◌}

-- The remainder times x. If the power x^16 comes, the polynomial is subtracted, which is exclusive or.
abbrev pub shifted : ℕ → ℕ
shifted remainder = if nat_lt remainder 0x8000 then remainder * 2 else bit_xor (remainder * 2 - 0x10000) 0x1021

abbrev pub shifted_by : ℕ → ℕ → ℕ
shifted_by zero remainder = remainder
shifted_by (suc count) remainder = shifted_by count (shifted remainder)

-- the remainder after another byte, whose bits are the highest
abbrev pub with_byte : ℕ → ℕ → ℕ
with_byte remainder byte = shifted_by 8 (bit_xor remainder (byte * 256))

abbrev pub with_bytes : ℕ → List ℕ → ℕ
with_bytes remainder [] = remainder
with_bytes remainder (byte ∷ bytes) = with_bytes (with_byte remainder byte) bytes

abbrev pub crc16 : List ℕ → ℕ
crc16 bytes = with_bytes 0 bytes
