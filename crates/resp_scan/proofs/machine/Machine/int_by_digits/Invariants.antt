use Rattle.std.proofs.Common.{◌≡◌, ◌≤◌, drop}
use Rattle.resp_scan.specs.Machine.Magnitudes.{greatest_magnitude}
use Rattle.resp_scan.specs.Machine.Tokens.{at, InInt}
use Rattle.resp_scan.specs.Machine.Scan.{scan}
use Rattle.resp_scan.specs.Machine.Fields.{place_of}
use Rattle.resp_scan.proofs.machine.Machine.int_by_digits.Given as goal

abbrev pub invariant-loop-i : goal.invariant-loop-i
invariant-loop-i l = record {
  fits : l.magnitude ≤ greatest_magnitude l.negative;
  same : l.self ≡ l.fn.self;
  so_far : scan l.from (at (place_of l.fn.self) (InInt l.negative l.first)) (drop l.from l.piece) ≡
      scan l.i (at (place_of l.fn.self) (InInt l.negative l.magnitude)) (drop l.i l.piece);
}
