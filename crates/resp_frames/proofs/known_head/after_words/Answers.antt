use Rattle.std.proofs.Common.{arith}
use Rattle.resp_scan.proofs.CallClauses.Calls.{is_text}
use Rattle.resp_scan.proofs.Wholes.Commands.{rest_is_shorter, word_parts_of, word_spelled}
use Rattle.resp_scan.proofs.Wholes.HeadNumbers.{holds_at_none}
use Rattle.resp_scan.proofs.Wholes.ManyWords.{one_word_more}
use Rattle.resp_frames.proofs.KnownHeads.{next_word_of, text_after_words}
use Rattle.resp_frames.proofs.known_head.after_words.Goals as goal

pub returns-in_err-rest-clause-none : goal.returns-in_err-rest-clause-none
returns-in_err-rest-clause-none c = holds_at_none c.from_residual.result
    (λ words rest as_many begins small.
    let limits = c.args.limits.now in
    let read = c.loop.invariant in
    let left = c.loop.rest.now in
    let (word, next, first, long) = next_word_of limits.length c.args.text.now read.words words left rest read.begins begins
    (omega (arith, read.as_many, as_many, c.loop-test.true)) in
    let shorter = rest_is_shorter limits.length c.args.text.now read.words left read.begins in
    c.in_err-rest.ensures.none word next
    (word_spelled limits left word next
    (text_after_words limits.length c.args.text.now read.words left read.begins (is_text c.args.text.now (λ i. (c.type_inv.text i).fits))) first
    (omega (arith, small, shorter, long))))

pub loop-preserved : goal.loop-preserved
loop-preserved c = one_word_more c.args.limits.now.length c.args.text.now c.loop.counter c.loop.rest.now c.in_ok-rest.field-0.content.now
    c.in_ok-rest.field-0.rest.now c.loop.invariant
    (word_parts_of c.args.limits.now c.loop.rest.now c.in_ok-rest.field-0.content.now c.in_ok-rest.field-0.rest.now c.in_ok-rest.ensures.begins).0
