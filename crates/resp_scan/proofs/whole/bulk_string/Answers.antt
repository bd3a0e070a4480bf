use Rattle.std.proofs.Common.{◌∷◌, [], length, refl, sym, ap, subst, arith}
use Rattle.resp_scan.specs.Whole.{BeginsWithWord}
use Rattle.resp_scan.proofs.CallClauses.Calls.{is_text}
use Rattle.resp_scan.proofs.Wholes.HeadNumbers.{holds_at_none}
use Rattle.resp_scan.proofs.Wholes.WordFronts.{one_word}
use Rattle.resp_scan.proofs.Wholes.Commands.{rest_is_shorter, word_parts_of, word_spelled}
use Rattle.resp_scan.proofs.whole.bulk_string.Goals as goal

pub returns-in_err-found-clause-none : goal.returns-in_err-found-clause-none
returns-in_err-found-clause-none c = holds_at_none c.from_residual.result
    (λ content rest begins.
    let (word, small) = word_parts_of c.args.limits.now c.args.text.now content rest begins in
    c.in_err-found.ensures.none content rest
    (subst (λ most. BeginsWithWord most c.args.text.now content rest) (sym c.length.ensures.length) word))

pub overflow_sub-text : goal.overflow_sub-text
overflow_sub-text c = rest_is_shorter c.length.result c.args.text.now (c.in_ok-found.found.content.now ∷ []) c.in_ok-found.found.rest.now
    (c.in_ok-found.found.rest.now, c.in_ok-found.ensures.begins, refl)

pub returns-then-text-found-clause-none : goal.returns-then-text-found-clause-none
returns-then-text-found-clause-none c content rest begins =
    let (word, small) = word_parts_of c.args.limits.now c.args.text.now content rest begins in
    let same = (one_word c.length.result c.args.text.now content rest c.in_ok-found.found.content.now c.in_ok-found.found.rest.now
    (subst (λ most. BeginsWithWord most c.args.text.now content rest) (sym c.length.ensures.length) word) c.in_ok-found.ensures.begins).1 in
    let long = ap length same in
    omega (arith, long, small, c.total.ensures.total, c.if-text-found.true)

pub returns-clause-begins : goal.returns-clause-begins
returns-clause-begins c =
    word_spelled c.args.limits.now c.args.text.now c.in_ok-found.found.content.now c.in_ok-found.found.rest.now
    (is_text c.args.text.now (λ i. (c.type_inv.text i).fits))
    (subst (λ most. BeginsWithWord most c.args.text.now c.in_ok-found.found.content.now c.in_ok-found.found.rest.now) c.length.ensures.length
    c.in_ok-found.ensures.begins)
    (omega (arith, c.if-text-found.false, c.total.ensures.total))
