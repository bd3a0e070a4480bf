use Rattle.std.proofs.Common.{◌≡◌, ◌+◌, drop}
use Rattle.resp_scan.specs.Machine.Runs.{digit_run}
use Rattle.resp_scan.proofs.big_numbers.digit_run.Given as goal

abbrev pub invariant-loop-i : goal.invariant-loop-i
invariant-loop-i l = digit_run l.s ≡ digit_run (drop l.i l.s) + l.i
