use Rattle.std.proofs.Common.{◌≡◌, ◌+◌, take, drop, sym, ap, ◌∙◌, arith, length-drop}
use Rattle.std.proofs.lemmas.List.{drop-drop, length-take-le, take-append-drop, take_rest}
use Rattle.resp_value.specs.Bytes.{crlf}
use Rattle.resp_scan.proofs.Wholes.HeadNumbers.{holds_at_none}
use Rattle.resp_scan.proofs.Wholes.WordFronts.{after_content, head_of_word, split_whole, word_found, word_fits}
use Rattle.resp_scan.proofs.whole.word.Goals as goal

pub returns-in_err-head-clause-none : goal.returns-in_err-head-clause-none
returns-in_err-head-clause-none c = holds_at_none c.from_residual.result
    (λ word rest begins. c.in_err-head.ensures.none _ _ begins.short (head_of_word c.args.most c.args.text.now word rest begins))

pub returns-then-text-head-clause-none : goal.returns-then-text-head-clause-none
returns-then-text-head-clause-none c word rest begins =
    let size = length-drop c.in_ok-head.head.end c.args.text.now in
    word_fits c.args.most c.in_ok-head.head.number c.args.text.now (drop c.in_ok-head.head.end c.args.text.now) word rest
    c.in_ok-head.ensures.begins begins (omega (arith, size, c.if-text-head.true))

pub returns-then-not-is_line_end-clause-none : goal.returns-then-not-is_line_end-clause-none
returns-then-not-is_line_end-clause-none c word rest begins =
    let n = c.in_ok-head.head.number in
    let end = c.in_ok-head.head.end in
    let line = drop end c.args.text.now in
    let size = length-drop end c.args.text.now in
    let ends = (after_content c.args.most n c.args.text.now line (take n line) (drop n line) word rest c.in_ok-head.ensures.begins
    (sym (take-append-drop n line)) (length-take-le n line (omega (arith, size, c.if-text-head.false))) begins).1 in
    c.if-not-is_line_end.ensures rest (sym (drop-drop n end c.args.text.now) ∙ ends)

pub returns-clause-begins : goal.returns-clause-begins
returns-clause-begins c =
    let n = c.in_ok-head.head.number in
    let end = c.in_ok-head.head.end in
    let text = c.args.text.now in
    let line = drop end text in
    let tail = take_rest text end in
    let front : c.split_at.result.0.now ≡ take n line = c.split_at.ensures.front ∙ ap (take n) tail in
    let after : c.split_at.result.1.now ≡ drop n line = c.split_at.ensures.back ∙ ap (drop n) tail in
    let ends : c.split_at.result.1.now ≡ crlf (drop (end + n + 2) text) = after ∙ drop-drop n end text ∙ c.if-not-is_line_end.ensures in
    let last = take_rest c.split_at.result.1.now 2 ∙ ap (drop 2) ends in
    word_found c.args.most n text line c.split_at.result.0.now c.split_at.result.1.now _ c.in_ok-head.ensures.begins
    c.in_ok-head.ensures.within.0 (split_whole n line c.split_at.result.0.now c.split_at.result.1.now front after) c.split_at.ensures.front_len
    (ends ∙ ap crlf (sym last))
