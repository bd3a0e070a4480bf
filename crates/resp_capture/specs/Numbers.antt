-- Numbers of several bytes.
use Rattle.std.specs.Prelude.{ℕ, ◌+◌, ◌*◌, List, slice_index}
use Rattle.resp_capture.specs.declared.number.ByteOrder.{ByteOrder}
use Rattle.resp_capture.specs.declared.number.ByteOrder.TheVariants.{Big, Little}

-- the number in the two bytes from this place on
abbrev pub number16 : ByteOrder → ℕ → List ℕ → ℕ
number16 Big at bytes = slice_index bytes at * 256 + slice_index bytes (at + 1)
number16 Little at bytes = slice_index bytes (at + 1) * 256 + slice_index bytes at

-- the number in the four bytes from this place on
abbrev pub number32 : ByteOrder → ℕ → List ℕ → ℕ
number32 Big at bytes = number16 Big at bytes * 65536 + number16 Big (at + 2) bytes
number32 Little at bytes = number16 Little (at + 2) bytes * 65536 + number16 Little at bytes

-- the number in the eight bytes from this place on
abbrev pub number64 : ByteOrder → ℕ → List ℕ → ℕ
number64 Big at bytes = number32 Big at bytes * 4294967296 + number32 Big (at + 4) bytes
number64 Little at bytes = number32 Little (at + 4) bytes * 4294967296 + number32 Little at bytes
