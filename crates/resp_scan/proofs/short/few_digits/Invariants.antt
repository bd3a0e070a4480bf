use Rattle.std.proofs.Common.{true, ◌≡◌, ◌^◌, ◌<◌, ◌-◌, false, drop}
use Rattle.resp_scan.specs.Machine.Room.{has_total_room}
use Rattle.resp_scan.specs.Machine.Scan.{scan}
use Rattle.resp_scan.specs.Machine.Tokens.{InInt, Place, at}
use Rattle.resp_scan.proofs.short.few_digits.Given as goal

abbrev pub invariant-loop-end : goal.invariant-loop-end
invariant-loop-end l = record {
  few : l.magnitude < 10 ^ (l.end - 1);
  fits : l.magnitude < 10 ^ 11;
  digits : (s : Place) → has_total_room s l.end 2 ≡ true →
      scan 2 (at s (InInt false l.first)) (drop 2 l.piece) ≡ scan l.end (at s (InInt false l.magnitude)) (drop l.end l.piece);
}
