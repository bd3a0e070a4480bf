use Rattle.std.proofs.Common.{◌≤◌, drop}
use Rattle.resp_scan.specs.Machine.Wholes.{BeginsWithDigits}
use Rattle.resp_scan.proofs.whole.digits.Given as goal

abbrev pub invariant-loop-end : goal.invariant-loop-end
invariant-loop-end l = record {
  begins : BeginsWithDigits (drop 1 l.text) l.number (drop l.end l.text);
  within : l.number ≤ l.most;
}
