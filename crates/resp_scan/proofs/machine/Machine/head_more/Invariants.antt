use Rattle.std.proofs.Common.{◌≡◌, ◌≤◌, ◌+◌, ◌^◌, drop}
use Rattle.resp_scan.specs.Machine.Heads.{head_needed}
use Rattle.resp_scan.specs.Machine.Sound.{IsWithinRoom}
use Rattle.resp_scan.specs.Machine.Tokens.{at, InHead}
use Rattle.resp_scan.specs.Machine.Scan.{scan}
use Rattle.resp_scan.specs.Machine.Fields.{place_of}
use Rattle.resp_scan.proofs.machine.Machine.head_more.Given as goal

abbrev pub invariant-loop-i : goal.invariant-loop-i
invariant-loop-i l = record {
  fits : l.number ≤ 2 ^ 40;
  room : IsWithinRoom l.head l.number;
  same : l.self ≡ l.fn.self;
  frames_need : l.fn.self.frames_need + head_needed l.head l.number ≤ 2 ^ 41;
  so_far : scan l.from (at (place_of l.fn.self) (InHead l.head l.first)) (drop l.from l.piece) ≡
      scan l.i (at (place_of l.fn.self) (InHead l.head l.number)) (drop l.i l.piece);
}
