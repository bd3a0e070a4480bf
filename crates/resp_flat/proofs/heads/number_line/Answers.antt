use Rattle.std.proofs.Common.{◌+◌, ◌-◌, ◌*◌, drop, get_or, sym, subst, arith}
use Rattle.resp_flat.proofs.Digits.{HasDigits, byte_first, one_digit_more}
use Rattle.resp_flat.proofs.NoneThere.{first_of_rest, no_number, past_end, ten_times}
use Rattle.resp_flat.proofs.heads.number_line.Goals as goal
use Rattle.resp_flat.proofs.heads.number_line.Goals.{else-loop-end-test, then-loop-end-test+then-digit-lt48, then-digit-lt48-via-then-digit-lt48, then-digit-lt48-via-else-digit-lt48+then-digit-gt57, then-number-most-via-then-number-most, then-number-most-via-else-number-most+then-end-at, then-number-most-via-else-number-most+else-end-at+then-not-is_line_end}

pub loop-end-preserved : goal.loop-end-preserved
loop-end-preserved c =
    let forward = c.loop-end.invariant.forward in
    record {
      begins = subst (λ digit. HasDigits (drop c.args.at c.args.buffer.now) (c.loop-end.end + 1 - c.args.at) (c.loop-end.number * 10 + digit)
          (drop (c.loop-end.end + 1) c.args.buffer.now)) (sym c.from.ensures)
          (one_digit_more (drop c.args.at c.args.buffer.now) (c.loop-end.end - c.args.at) c.loop-end.number (get_or c.args.buffer.now c.loop-end.end 0)
          (drop c.loop-end.end c.args.buffer.now) (drop (c.loop-end.end + 1) c.args.buffer.now) c.loop-end.invariant.begins
          (byte_first c.args.buffer.now c.loop-end.end c.loop-end-test.true) c.if-digit-lt48.false c.if-digit-gt57.false
          (c.loop-end.end + 1 - c.args.at) (omega (arith, forward)));
      forward = omega (arith, forward);
      within = omega (arith, c.loop-end-test.true);
    }

pub returns-then-number-gt-MOST-clause-none : goal.returns-then-number-gt-MOST-clause-none
returns-then-number-gt-MOST-clause-none c n rest few b =
    let end = c.loop-end.end in
    let first = first_of_rest c.args.buffer.now end in
    let more = ten_times (drop c.args.at c.args.buffer.now) (end - c.args.at) c.loop-end.number (drop end c.args.buffer.now) c.loop-end.invariant.begins
    (omega (arith, first, c.if-digit-lt48.false)) n rest b in
    omega (arith, more, few, c.requires.most, c.if-number-gt-MOST.true)

pub returns-then-number-most-clause-none : goal.returns-then-number-most-clause-none
returns-then-number-most-clause-none c n rest few b =
    let end = c.loop-end.end in
    let first = first_of_rest c.args.buffer.now end in
    no_number (drop c.args.at c.args.buffer.now) (end - c.args.at) c.loop-end.number (drop end c.args.buffer.now) c.loop-end.invariant.begins
    (λ low high. elim c.loop-end-test.branch [
      | else-loop-end-test w ↦ let past = past_end c.args.buffer.now end (omega (arith, w.loop-end-test.false)) in omega (arith, low, first, past)
      | then-loop-end-test+then-digit-lt48 w ↦ elim w.then-digit-lt48.branch [
        | then-digit-lt48-via-then-digit-lt48 v ↦ omega (arith, low, first, v.if-digit-lt48.true)
        | then-digit-lt48-via-else-digit-lt48+then-digit-gt57 v ↦ omega (arith, high, first, v.if-digit-gt57.true)
      ]
    ])
    c.args.most
    (λ after least some ends. elim c.then-number-most.branch [
      | then-number-most-via-then-number-most w ↦ omega (arith, least, w.if-number-most.true)
      | then-number-most-via-else-number-most+then-end-at w ↦ omega (arith, some, w.if-end-at.true)
      | then-number-most-via-else-number-most+else-end-at+then-not-is_line_end w ↦ w.if-not-is_line_end.ensures after ends
    ])
    n rest few b
