use Rattle.std.proofs.Common.{◌≡◌, ◌+◌, ◌∷◌, ◌++◌, drop, get_or, length, sym, ap, subst, ◌∙◌, arith, append_assoc, length-append, length-drop}
use Rattle.resp_value.specs.Bytes.{crlf}
use Rattle.resp_value.specs.Rules.{rules_under}
use Rattle.resp_flat.specs.Plain.{IsLeafAt}
use Rattle.resp_flat.proofs.LeavesRead.{is_text, verbatim_read}
use Rattle.resp_flat.proofs.NoneThere.{first_of_rest, none_if, rest_after, same_number}
use Rattle.resp_flat.proofs.leaves.verbatim_string.Goals as goal
use Rattle.resp_flat.proofs.leaves.verbatim_string.Goals.{then-length-lt4-via-then-length-lt4, then-length-lt4-via-else-length-lt4+then-buffer-head, then-length-lt4-via-else-length-lt4+else-buffer-head+then-buffer-head-ne58}

pub returns-clause-found : goal.returns-clause-found
returns-clause-found c version three first =
    let n = c.in_ok-head.head.number in
    let start = c.in_ok-head.head.end in
    let (ends, within) = c.if-not-is_line_end.ensures in
    subst (λ item. IsLeafAt (rules_under version c.args.limits.now) c.args.buffer.now c.args.at (start + n + 2) item) (sym c.verbatim.ensures)
    (verbatim_read (rules_under version c.args.limits.now) c.args.buffer.now c.args.at n start (start + n + 2) three
    (is_text c.args.buffer.now (λ i. (c.type_inv.buffer i).fits)) c.requires first c.in_ok-head.ensures.number (omega (arith, c.if-length-lt4.false))
    (omega (arith, within)) c.if-buffer-head-ne58.false ends within (omega (arith, c.in_ok-head.ensures.within.0, c.length.ensures.length)))

pub returns-in_err-head-clause-none : goal.returns-in_err-head-clause-none
returns-in_err-head-clause-none c = none_if c.from_residual.result _ (λ format text rest three few b.
    let parts = length-append format (58 ∷ text) in
    c.in_err-head.ensures.none _ _ (omega (arith, few, three, parts, c.length.ensures.length)) b)

pub returns-then-length-lt4-clause-none : goal.returns-then-length-lt4-clause-none
returns-then-length-lt4-clause-none c format text rest three few b =
    let start = c.in_ok-head.head.end in
    let buffer = c.args.buffer.now in
    let (n, is) = same_number _ _ _ _ _ c.in_ok-head.ensures.number b in
    let parts = length-append format (58 ∷ text) in
    let long = ap length is in
    let left = length-drop start buffer in
    let whole = length-append (format ++ 58 ∷ text) (crlf rest) in
    let colon : get_or buffer (start + 3) 0 ≡ 58 = ap (λ k. get_or buffer (start + k) 0) (sym three) ∙ sym (first_of_rest buffer (start + length format)) ∙
    ap (λ z. get_or z 0 0) (rest_after format start buffer (58 ∷ (text ++ crlf rest)) (is ∙ append_assoc format (58 ∷ text) (crlf rest))) in
    elim c.then-length-lt4.branch [
      | then-length-lt4-via-then-length-lt4 w ↦ omega (arith, n, parts, three, w.if-length-lt4.true)
      | then-length-lt4-via-else-length-lt4+then-buffer-head w ↦ omega (arith, n, long, left, whole, w.if-buffer-head.true)
      | then-length-lt4-via-else-length-lt4+else-buffer-head+then-buffer-head-ne58 w ↦ w.if-buffer-head-ne58.true colon
    ]

pub returns-then-not-is_line_end-clause-none : goal.returns-then-not-is_line_end-clause-none
returns-then-not-is_line_end-clause-none c format text rest three few b =
    let (n, is) = same_number _ _ _ _ _ c.in_ok-head.ensures.number b in
    c.if-not-is_line_end.ensures rest (ap (λ k. drop (c.in_ok-head.head.end + k) c.args.buffer.now) n ∙
    rest_after (format ++ 58 ∷ text) c.in_ok-head.head.end c.args.buffer.now (crlf rest) is)
