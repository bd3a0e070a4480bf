use Rattle.std.proofs.Common.{◌-◌, drop}
use Rattle.resp_flat.specs.Plain.{BeginsWithLine}
use Rattle.resp_flat.proofs.heads.line_end.Given as goal

abbrev pub invariant-loop-end : goal.invariant-loop-end
invariant-loop-end l = BeginsWithLine (drop l.at l.buffer) (l.end - l.at) (drop l.end l.buffer)
