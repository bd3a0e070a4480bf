use Rattle.std.proofs.Common.{◌+◌, ◌++◌, drop, length, sym, ap, subst, ◌∙◌, arith, length-append, length-drop}
use Rattle.resp_value.specs.Bytes.{crlf}
use Rattle.resp_value.specs.Rules.{rules_under}
use Rattle.resp_flat.specs.Nodes.{text_node}
use Rattle.resp_flat.specs.Plain.{IsLeafAt}
use Rattle.resp_flat.proofs.LeavesRead.{is_text, string_read}
use Rattle.resp_flat.proofs.NoneThere.{none_if, rest_after, same_number}
use Rattle.resp_flat.proofs.leaves.string.Goals as goal

pub returns-clause-found : goal.returns-clause-found
returns-clause-found c version k first form none two =
    let n = c.in_ok-head.head.number in
    let start = c.in_ok-head.head.end in
    let (ends, within) = c.if-not-is_line_end.ensures in
    subst (λ node. IsLeafAt (rules_under version c.args.limits.now) c.args.buffer.now c.args.at (start + n + 2) node)
    (sym (c.text.ensures ∙ ap (λ f. text_node f start n) form))
    (string_read (rules_under version c.args.limits.now) c.args.buffer.now c.args.at n start (start + n + 2) k
    (is_text c.args.buffer.now (λ i. (c.type_inv.buffer i).fits)) c.requires first c.in_ok-head.ensures.number (omega (arith, within)) ends within
    (omega (arith, c.in_ok-head.ensures.within.0, c.length.ensures.length)) none two)

pub returns-in_err-head-clause-none : goal.returns-in_err-head-clause-none
returns-in_err-head-clause-none c = none_if c.from_residual.result _ (λ text rest few b.
    c.in_err-head.ensures.none (length text) (text ++ crlf rest) (omega (arith, few, c.length.ensures.length)) b)

pub returns-then-buffer-head-clause-none : goal.returns-then-buffer-head-clause-none
returns-then-buffer-head-clause-none c text rest few b =
    let (n, is) = same_number _ _ _ _ _ c.in_ok-head.ensures.number b in
    let long = ap length is in
    let left = length-drop c.in_ok-head.head.end c.args.buffer.now in
    let parts = length-append text (crlf rest) in
    omega (arith, n, long, left, parts, c.if-buffer-head.true)

pub returns-then-not-is_line_end-clause-none : goal.returns-then-not-is_line_end-clause-none
returns-then-not-is_line_end-clause-none c text rest few b =
    let (n, is) = same_number _ _ _ _ _ c.in_ok-head.ensures.number b in
    c.if-not-is_line_end.ensures rest (ap (λ k. drop (c.in_ok-head.head.end + k) c.args.buffer.now) n ∙
    rest_after text c.in_ok-head.head.end c.args.buffer.now (crlf rest) is)
