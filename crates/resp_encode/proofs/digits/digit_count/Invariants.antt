use Rattle.std.proofs.Common.{◌≡◌, ◌+◌, ◌≤◌, length}
use Rattle.resp_value.specs.Numbers.{decimal}
use Rattle.resp_encode.proofs.digits.digit_count.Given as goal

-- the digits counted so far, and those of the rest, are those of the number
abbrev pub invariant-loop-rest : goal.invariant-loop-rest
invariant-loop-rest l = record {
  counted : l.count + length (decimal l.rest) ≡ length (decimal l.number);
  smaller : l.rest ≤ l.number;
}

abbrev pub decreases-loop-rest : goal.decreases-loop-rest
decreases-loop-rest l = l.rest
