use Rattle.std.specs.Prelude.{None}
use Rattle.std.proofs.Common.{◌≡◌, ◌<◌, ◌^◌, drop}
use Rattle.resp_scan.specs.Machine.Heads.{over}
use Rattle.resp_scan.specs.Machine.Tokens.{at, AtHead, InHead}
use Rattle.resp_scan.specs.Machine.Scan.{scan}
use Rattle.resp_scan.specs.Machine.Fields.{place_of}
use Rattle.resp_scan.proofs.machine.Machine.head_digits.Given as goal

abbrev pub invariant-loop-j : goal.invariant-loop-j
invariant-loop-j l = record {
  few : l.number < 2 ^ 44;
  same : l.self ≡ l.fn.self;
  so_far : over (place_of l.fn.self) l.j l.head l.number ≡ None →
      scan l.i (at (place_of l.fn.self) (AtHead l.head)) (drop l.i l.piece) ≡
      scan l.j (at (place_of l.fn.self) (InHead l.head l.number)) (drop l.j l.piece);
}
