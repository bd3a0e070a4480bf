use Rattle.std.proofs.Common.{◌≡◌, ◌+◌, drop}
use Rattle.resp_commands.specs.Slots.{bytes_before}
use Rattle.resp_commands.proofs.key.bytes_before.Given as goal

abbrev pub invariant-loop-i : goal.invariant-loop-i
invariant-loop-i l = bytes_before l.wanted l.bytes ≡ bytes_before l.wanted (drop l.i l.bytes) + l.i
