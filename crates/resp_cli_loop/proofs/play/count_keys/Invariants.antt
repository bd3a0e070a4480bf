use Rattle.std.proofs.Common.{◌≡◌, length, min}
use Rattle.resp_io.specs.Devices.{last_count}
use Rattle.resp_cli_loop.proofs.play.count_keys.Given as goal

abbrev pub invariant-loop : goal.invariant-loop
invariant-loop g l = l.count ≡ min (length l.yielded) last_count
