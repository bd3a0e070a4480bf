use Rattle.std.proofs.Common.{◌≡◌, ◌-◌, ◌∷◌, length, sym, ap, subst, arith}
use Rattle.resp_scan.specs.Whole.{BeginsWithHead, BeginsWithWords, words_in}
use Rattle.resp_scan.proofs.CallClauses.Calls.{is_text}
use Rattle.resp_scan.proofs.Wholes.HeadNumbers.{holds_at_none}
use Rattle.resp_scan.proofs.Wholes.WordFronts.{one_word}
use Rattle.resp_scan.proofs.Wholes.ManyWords.{has_words, same_words, words_within_more}
use Rattle.resp_scan.proofs.Wholes.Commands.{body_is_shorter, command_parts, command_spelled, number_of_words, rest_is_shorter}
use Rattle.resp_scan.proofs.whole.command.Goals as goal

pub returns-in_err-head-clause-none : goal.returns-in_err-head-clause-none
returns-in_err-head-clause-none c = holds_at_none c.from_residual.result
    (λ name arguments rest begins.
    let parts = command_parts c.args.limits.now c.args.text.now (name ∷ arguments) rest begins in
    c.in_err-head.ensures.none (length (name ∷ arguments)) parts.body parts.few parts.head)

pub returns-then-head-eq0-clause-none : goal.returns-then-head-eq0-clause-none
returns-then-head-eq0-clause-none c name arguments rest begins =
    let parts = command_parts c.args.limits.now c.args.text.now (name ∷ arguments) rest begins in
    let same = (number_of_words c.args.limits.now c.args.text.now (name ∷ arguments) rest c.in_ok-head.head.number c.in_ok-head.head.rest.now
    c.in_ok-head.ensures.begins parts).0 in
    omega (arith, same, c.if-head-eq0.true)

pub returns-in_err-name-clause-none : goal.returns-in_err-name-clause-none
returns-in_err-name-clause-none c = holds_at_none c.from_residual-in_err-name.result
    (λ name arguments rest begins.
    let parts = command_parts c.args.limits.now c.args.text.now (name ∷ arguments) rest begins in
    let (as_many, words) = number_of_words c.args.limits.now c.args.text.now (name ∷ arguments) rest c.in_ok-head.head.number c.in_ok-head.head.rest.now
    c.in_ok-head.ensures.begins parts in
    let (next, first, others) = subst (λ most. BeginsWithWords most c.in_ok-head.head.rest.now (name ∷ arguments) rest) (sym c.length-most.ensures.length) words in
    c.in_err-name.ensures.none name next first)

pub returns-in_err-rest-clause-none : goal.returns-in_err-rest-clause-none
returns-in_err-rest-clause-none c = holds_at_none c.from_residual-in_err-rest.result
    (λ name arguments rest begins.
    let parts = command_parts c.args.limits.now c.args.text.now (name ∷ arguments) rest begins in
    let (as_many, words) = number_of_words c.args.limits.now c.args.text.now (name ∷ arguments) rest c.in_ok-head.head.number c.in_ok-head.head.rest.now
    c.in_ok-head.ensures.begins parts in
    let (next, first, others) = subst (λ most. BeginsWithWords most c.in_ok-head.head.rest.now (name ∷ arguments) rest) (sym c.length-most.ensures.length) words in
    let same = (one_word c.length-most.result c.in_ok-head.head.rest.now name next c.in_ok-name.name.content.now c.in_ok-name.name.rest.now first
    c.in_ok-name.ensures.begins).1 in
    c.in_err-rest.ensures.none arguments rest (omega (arith, as_many))
    (subst (λ text. BeginsWithWords c.length-most.result text arguments rest) same others))

pub overflow_sub-text : goal.overflow_sub-text
overflow_sub-text c =
    let (words, as_many, begins) = c.in_ok-rest.ensures.begins in
    let shorter = rest_is_shorter c.length-most.result c.in_ok-head.head.rest.now (c.in_ok-name.name.content.now ∷ words) c.in_ok-rest.rest.now
    (c.in_ok-name.name.rest.now, c.in_ok-name.ensures.begins, begins) in
    let short = body_is_shorter c.args.text.now 42 c.in_ok-head.head.number c.in_ok-head.head.rest.now c.in_ok-head.ensures.begins in
    omega (arith, shorter, short)

pub returns-then-text-rest-clause-none : goal.returns-then-text-rest-clause-none
returns-then-text-rest-clause-none c name arguments rest begins =
    let parts = command_parts c.args.limits.now c.args.text.now (name ∷ arguments) rest begins in
    let (as_many, words) = number_of_words c.args.limits.now c.args.text.now (name ∷ arguments) rest c.in_ok-head.head.number c.in_ok-head.head.rest.now
    c.in_ok-head.ensures.begins parts in
    let (found, many, others) = c.in_ok-rest.ensures.begins in
    let number : length (name ∷ arguments) ≡ length (c.in_ok-name.name.content.now ∷ found) = omega (arith, as_many, many, c.if-head-eq0.false) in
    let same = (same_words c.length-most.result c.in_ok-head.head.rest.now (name ∷ arguments) (c.in_ok-name.name.content.now ∷ found) rest
    c.in_ok-rest.rest.now number
    (subst (λ most. BeginsWithWords most c.in_ok-head.head.rest.now (name ∷ arguments) rest) (sym c.length-most.ensures.length) words)
    (c.in_ok-name.name.rest.now, c.in_ok-name.ensures.begins, others)).1 in
    let long = ap length same in
    omega (arith, long, parts.small, c.total.ensures.total, c.if-text-rest.true)

pub invariant_of-arguments : goal.invariant_of-arguments
invariant_of-arguments c =
    let (found, many, others) = c.in_ok-rest.ensures.begins in
    let text = c.in_ok-name.name.rest.now in (
      c.in_ok-rest.rest.now,
      (has_words 1_073_741_824 (c.in_ok-head.head.number - 1) text found c.in_ok-rest.rest.now many
          (words_within_more c.length-most.result 1_073_741_824 text found c.in_ok-rest.rest.now c.length-most.ensures.in_range.1 others)).1,
    )

pub returns-clause-begins : goal.returns-clause-begins
returns-clause-begins c =
    let (found, many, others) = c.in_ok-rest.ensures.begins in
    let n = c.in_ok-head.head.number in
    let body = c.in_ok-head.head.rest.now in
    let name = c.in_ok-name.name.content.now in
    let text = c.in_ok-name.name.rest.now in
    let are = has_words c.length-most.result (n - 1) text found c.in_ok-rest.rest.now many others in
    let words = name ∷ words_in (n - 1) text in
    let number : length words ≡ n = let same = ap length are.0 in omega (arith, same, many, c.if-head-eq0.false) in
    let begins : BeginsWithWords c.length-most.result body words c.in_ok-rest.rest.now = (text, c.in_ok-name.ensures.begins, are.1) in
    command_spelled c.args.limits.now c.are_in_range.ensures c.args.text.now words c.in_ok-rest.rest.now
    (is_text c.args.text.now (λ i. (c.type_inv.text i).fits))
    (record {
      body = body;
      head = subst (λ k. BeginsWithHead c.args.text.now 42 k body) (sym number) c.in_ok-head.ensures.begins;
      begins = subst (λ most. BeginsWithWords most body words c.in_ok-rest.rest.now) c.length-most.ensures.length begins;
      few = omega (arith, number, c.in_ok-head.ensures.within);
      small = omega (arith, c.if-text-rest.false, c.total.ensures.total);
    })
