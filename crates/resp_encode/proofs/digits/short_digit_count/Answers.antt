use Rattle.std.proofs.Common.{sym, arith}
use Rattle.resp_encode.proofs.Decimals.{length-decimal-one, length-decimal-two, length-decimal-three, length-decimal-four}
use Rattle.resp_encode.proofs.digits.short_digit_count.Goals as goal

pub returns-then-number-lt10-clause-count : goal.returns-then-number-lt10-clause-count
returns-then-number-lt10-clause-count c = sym (length-decimal-one c.args.number (omega arith))

pub returns-then-number-lt100-clause-count : goal.returns-then-number-lt100-clause-count
returns-then-number-lt100-clause-count c = sym (length-decimal-two c.args.number (omega arith) (omega arith))

pub returns-then-number-lt1000-clause-count : goal.returns-then-number-lt1000-clause-count
returns-then-number-lt1000-clause-count c = sym (length-decimal-three c.args.number (omega arith) (omega arith))

pub returns-else-number-lt1000-clause-count : goal.returns-else-number-lt1000-clause-count
returns-else-number-lt1000-clause-count c = sym (length-decimal-four c.args.number (omega arith) (omega arith))
