use Rattle.std.proofs.Common.{◌≤◌, ◌-◌, drop, length}
use Rattle.resp_flat.proofs.Digits.{HasDigits}
use Rattle.resp_flat.proofs.heads.number_line.Given as goal

abbrev pub invariant-loop-end : goal.invariant-loop-end
invariant-loop-end l = record {
  begins : HasDigits (drop l.at l.buffer) (l.end - l.at) l.number (drop l.end l.buffer);
  forward : l.at ≤ l.end;
  within : l.end ≤ length l.buffer;
}

abbrev pub decreases-loop-end : goal.decreases-loop-end
decreases-loop-end l = length l.buffer - l.end
