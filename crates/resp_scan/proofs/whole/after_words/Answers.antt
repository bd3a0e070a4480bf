use Rattle.std.proofs.Common.{arith}
use Rattle.resp_scan.proofs.Wholes.HeadNumbers.{holds_at_none}
use Rattle.resp_scan.proofs.Wholes.ManyWords.{next_word, one_word_more}
use Rattle.resp_scan.proofs.whole.after_words.Goals as goal

pub returns-in_err-rest-clause-none : goal.returns-in_err-rest-clause-none
returns-in_err-rest-clause-none c = holds_at_none c.from_residual.result
    (λ words rest as_many begins.
    let read = c.loop.invariant in
    let (word, next, first) = next_word c.args.most c.args.text.now read.words words c.loop.rest.now rest read.begins begins
    (omega (arith, read.as_many, as_many, c.loop-test.true)) in
    c.in_err-rest.ensures.none word next first)

pub loop-preserved : goal.loop-preserved
loop-preserved c = one_word_more c.args.most c.args.text.now c.loop.counter c.loop.rest.now c.in_ok-rest.field-0.content.now
    c.in_ok-rest.field-0.rest.now c.loop.invariant c.in_ok-rest.ensures.begins
