use Rattle.std.proofs.Common.{◌≡◌, drop}
use Rattle.resp_commands.specs.Checksums.{crc16, with_bytes}
use Rattle.resp_commands.proofs.checksum.crc16.Given as goal

abbrev pub invariant-loop-byte : goal.invariant-loop-byte
invariant-loop-byte l = crc16 l.bytes ≡ with_bytes l.register (drop l.byte-index l.bytes)
