use Rattle.std.proofs.Common.{◌≡◌, ◌<◌, map, drop}
use Rattle.std.specs.Char.{to_ascii_lowercase}
use Rattle.resp_commands.specs.Places.{hash_from}
use Rattle.resp_commands.proofs.lookup.hash_of.Given as goal

abbrev pub invariant-loop-byte : goal.invariant-loop-byte
invariant-loop-byte l =
    (l.hash < 65536) ×
    (hash_from l.first (map to_ascii_lowercase l.name) ≡ hash_from l.hash (map to_ascii_lowercase (drop l.byte-index l.name)))
