use Rattle.std.proofs.Common.{◌≡◌, ◌<◌, length}
use Rattle.resp_value.specs.Numbers.{kept_digits}
use Rattle.resp_value.proofs.digits.kept_part.Given as goal

abbrev pub invariant-loop-rest : goal.invariant-loop-rest
invariant-loop-rest l = (0 < length l.rest) × (kept_digits l.rest ≡ kept_digits l.digits)

abbrev pub decreases-loop-rest : goal.decreases-loop-rest
decreases-loop-rest l = length l.rest
