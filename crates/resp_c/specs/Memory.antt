-- The contents of memory of the caller: room for a scanner, or a scanner.
use base.Fml.{Fml}
use base.Fraction.{full_share}
use base.Stored.{Coded}
use prog.Memory.{align, size}
use denote.Memory.{lone}
use denote.RawPtr.{Ptr, lies_at, room_at}
use Rattle.std.specs.Prelude.{ℕ, Option, Some, None}
use Rattle.std.specs.Coded.{coded_option}
use Rattle.resp_scan.specs.contracts.scanner.Scanner.{the_row}

-- the bytes that a scanner takes, and their alignment
abbrev pub scanner_size : ℕ
scanner_size = size (lone the_row.mir)

abbrev pub scanner_alignment : ℕ
scanner_alignment = align (lone the_row.mir)

abbrev pub holds : Ptr → Option the_row.Denot → Fml
holds p None = room_at the_row p
holds p (Some s) = lies_at the_row full_share p s

abbrev pub coded_scanner : Coded (Option the_row.Denot)
coded_scanner = coded_option the_row.coded
