use Rattle.std.proofs.Common.{◌+◌, ◌*◌, drop, get_or, sym, subst}
use Rattle.resp_scan.specs.Machine.Wholes.{BeginsWithDigits}
use Rattle.resp_scan.proofs.Wholes.HeadNumbers.{byte_first, one_digit_more}
use Rattle.resp_scan.proofs.whole.digits.Goals as goal

pub returns-then-number-most-clause-none : goal.returns-then-number-most-clause-none
returns-then-number-most-clause-none c = record {
  n = c.loop-end.number * 10 + c.from.result;
  rest = drop (c.loop-end.end + 1) c.args.text.now;
  begins = subst (λ digit. BeginsWithDigits (drop 1 c.args.text.now) (c.loop-end.number * 10 + digit) (drop (c.loop-end.end + 1) c.args.text.now))
      (sym c.from.ensures)
      (one_digit_more (drop 1 c.args.text.now) c.loop-end.number (get_or c.args.text.now c.loop-end.end 0) (drop c.loop-end.end c.args.text.now)
      (drop (c.loop-end.end + 1) c.args.text.now) c.loop-end.invariant.begins (byte_first c.args.text.now c.loop-end.end c.loop-end-test.true)
      c.if-digit-lt48.false c.if-digit-gt57.false);
  more = c.if-number-most.true;
}

pub loop-end-preserved : goal.loop-end-preserved
loop-end-preserved c = record {
  begins = subst (λ digit. BeginsWithDigits (drop 1 c.args.text.now) (c.loop-end.number * 10 + digit) (drop (c.loop-end.end + 1) c.args.text.now))
      (sym c.from.ensures)
      (one_digit_more (drop 1 c.args.text.now) c.loop-end.number (get_or c.args.text.now c.loop-end.end 0) (drop c.loop-end.end c.args.text.now)
      (drop (c.loop-end.end + 1) c.args.text.now) c.loop-end.invariant.begins (byte_first c.args.text.now c.loop-end.end c.loop-end-test.true)
      c.if-digit-lt48.false c.if-digit-gt57.false);
  within = c.if-number-most.false;
}
