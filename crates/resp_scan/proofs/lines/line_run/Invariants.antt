use Rattle.std.proofs.Common.{◌≡◌, ◌+◌, drop}
use Rattle.resp_scan.specs.Machine.Runs.{plain_run}
use Rattle.resp_scan.proofs.lines.line_run.Given as goal

abbrev pub invariant-loop-i : goal.invariant-loop-i
invariant-loop-i l = plain_run l.s ≡ plain_run (drop l.i l.s) + l.i
