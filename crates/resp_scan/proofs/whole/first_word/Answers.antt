use Rattle.std.proofs.Common.{◌+◌, ◌*◌, take, drop, sym, ap, subst, ◌∙◌, arith}
use Rattle.std.proofs.lemmas.List.{take_rest}
use Rattle.resp_scan.proofs.Wholes.FirstWords.{ReadsHead, head_begins, next_digit, word_read}
use Rattle.resp_scan.proofs.whole.first_word.Goals as goal

pub loop-end-init : goal.loop-end-init
loop-end-init c = let (word, rest, begins) = c.requires in head_begins c.args.text.now word rest begins

pub overflow_mul-length : goal.overflow_mul-length
overflow_mul-length c =
    let next = next_digit c.args.text.now c.loop-end.end c.loop-end.length c.loop-end.invariant c.loop-end-test.true in
    omega (arith, next.1)

pub overflow_add-length : goal.overflow_add-length
overflow_add-length c =
    let next = next_digit c.args.text.now c.loop-end.end c.loop-end.length c.loop-end.invariant c.loop-end-test.true in
    omega (arith, next.1, c.from.ensures)

pub loop-end-preserved : goal.loop-end-preserved
loop-end-preserved c =
    let next = next_digit c.args.text.now c.loop-end.end c.loop-end.length c.loop-end.invariant c.loop-end-test.true in
    subst (λ digit. ReadsHead c.args.text.now (c.loop-end.end + 1) (c.loop-end.length * 10 + digit)) (sym c.from.ensures) next.2

pub returns : goal.returns
returns c =
    let tail = take_rest c.args.text.now (c.loop-end.end + 2) in
    word_read c.args.text.now c.loop-end.end c.loop-end.length c.loop-end.invariant c.loop-end-test.false c.split_at.result.0.now
    c.split_at.result.1.now _
    (c.split_at.ensures.front ∙ ap (take c.loop-end.length) tail) (c.split_at.ensures.back ∙ ap (drop c.loop-end.length) tail)
    (take_rest c.split_at.result.1.now 2)
