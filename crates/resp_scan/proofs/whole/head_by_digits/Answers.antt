use Rattle.std.proofs.Common.{drop, get_or, length, ap}
use Rattle.resp_scan.proofs.Wholes.HeadNumbers.{all_digits, head_first, holds_at_none, not_too_many, some_digit}
use Rattle.resp_scan.proofs.whole.head_by_digits.Goals as goal

pub returns-in_err-found-clause-none : goal.returns-in_err-found-clause-none
returns-in_err-found-clause-none c = holds_at_none c.from_residual.result
    (λ n rest few begins. not_too_many c.args.text.now c.args.kind n (get_or c.args.text.now 0 0) c.args.most (drop 1 c.args.text.now) rest
    c.in_err-found.ensures.none (head_first c.args.text.now c.args.kind n rest begins) few begins)

pub returns-then-found-eq1-clause-none : goal.returns-then-found-eq1-clause-none
returns-then-found-eq1-clause-none c n rest few begins =
    some_digit c.args.text.now c.args.kind n c.in_ok-found.found.number (get_or c.args.text.now 0 0) (drop 1 c.args.text.now)
    (drop c.in_ok-found.found.end c.args.text.now) rest c.in_ok-found.ensures.begins c.in_ok-found.ensures.ends
    (head_first c.args.text.now c.args.kind n rest begins) (ap (λ k. length (drop k c.args.text.now)) c.if-found-eq1.true) begins

pub returns-then-not-is_line_end-clause-none : goal.returns-then-not-is_line_end-clause-none
returns-then-not-is_line_end-clause-none c n rest few begins =
    c.if-not-is_line_end.ensures rest (all_digits c.args.text.now c.args.kind n c.in_ok-found.found.number (get_or c.args.text.now 0 0)
    (drop 1 c.args.text.now) (drop c.in_ok-found.found.end c.args.text.now) rest c.in_ok-found.ensures.begins c.in_ok-found.ensures.ends
    (head_first c.args.text.now c.args.kind n rest begins) begins).1
