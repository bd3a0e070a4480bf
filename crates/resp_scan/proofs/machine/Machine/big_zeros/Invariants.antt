use Rattle.std.proofs.Common.{◌≡◌, drop}
use Rattle.resp_scan.specs.Machine.Tokens.{at, InBigZeros}
use Rattle.resp_scan.specs.Machine.Scan.{scan}
use Rattle.resp_scan.specs.Machine.Fields.{place_of}
use Rattle.resp_scan.proofs.machine.Machine.big_zeros.Given as goal

abbrev pub invariant-loop-i : goal.invariant-loop-i
invariant-loop-i l = record {
  same : l.self ≡ l.fn.self;
  so_far : scan l.from (at (place_of l.fn.self) (InBigZeros l.negative)) (drop l.from l.piece) ≡
      scan l.i (at (place_of l.fn.self) (InBigZeros l.negative)) (drop l.i l.piece);
}
