use Rattle.std.proofs.Common.{◌≡◌, drop}
use Rattle.resp_scan.specs.Machine.Runs.{double_run}
use Rattle.resp_scan.proofs.doubles.double_run.Given as goal

-- the run goes on from here as it does from its beginning
abbrev pub invariant-loop-i : goal.invariant-loop-i
invariant-loop-i l = double_run l.i l.total l.room l.stage (drop l.i l.piece) ≡ double_run 0 l.total l.initial.room l.initial.stage l.piece
