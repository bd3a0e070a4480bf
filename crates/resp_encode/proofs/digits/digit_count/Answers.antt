use Rattle.std.proofs.Common.{◌≤◌, arith}
use Rattle.resp_encode.proofs.Decimals.{length-decimal-four_more, length-decimal-few}
use Rattle.resp_encode.proofs.digits.digit_count.Goals as goal

pub overflow_add-count : goal.overflow_add-count
overflow_add-count c = omega (arith, length-decimal-few c.args.number (omega arith))

pub loop-rest-preserved : goal.loop-rest-preserved
loop-rest-preserved c =
    let large : 10000 ≤ c.loop-rest.rest = c.loop-rest-test.true in
    record {
      counted = omega (
        arith,
        c.loop-rest.invariant.counted,
        length-decimal-four_more c.loop-rest.rest large (omega arith),
      );
      smaller = omega arith;
    }

pub overflow_add-result : goal.overflow_add-result
overflow_add-result c = omega (arith, length-decimal-few c.args.number (omega arith))

pub returns-clause-few : goal.returns-clause-few
returns-clause-few c = omega (arith, length-decimal-few c.args.number (omega arith))
