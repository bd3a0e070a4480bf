use Rattle.std.proofs.Common.{◌≡◌, ◌+◌, [], ◌∷◌, drop, get_or, length, sym, subst, ap, ◌∙◌, arith, length-drop}
use Rattle.resp_flat.specs.Plain.{IsLeafAt}
use Rattle.resp_value.specs.Bytes.{crlf}
use Rattle.resp_flat.proofs.LeavesRead.{null_read}
use Rattle.resp_flat.proofs.NoneThere.{first_of_rest, rest_after}
use Rattle.resp_flat.proofs.leaves.null.Goals as goal
use Rattle.resp_flat.proofs.leaves.null.Goals.{then-buffer-at-lt5-via-then-buffer-at-lt5, then-buffer-at-lt5-via-else-buffer-at-lt5+then-buffer-at-ne45, then-buffer-at-lt5-via-else-buffer-at-lt5+else-buffer-at-ne45+then-buffer-at-ne49}

pub returns-clause-found : goal.returns-clause-found
returns-clause-found c r first =
    let (ends, within) = c.if-not-is_line_end.ensures in
    subst (λ node. IsLeafAt r c.args.buffer.now c.args.at (c.args.at + 5) node) (sym c.leaf.ensures)
    (null_read r c.args.buffer.now c.args.at (c.args.at + 5) first c.if-buffer-at-ne45.false c.if-buffer-at-ne49.false
    (subst (λ k. drop (c.args.at + 3) c.args.buffer.now ≡ crlf (drop k c.args.buffer.now)) (omega arith) ends) (omega (arith, within)) (omega (arith, within)))

pub returns-then-buffer-at-lt5-clause-none : goal.returns-then-buffer-at-lt5-clause-none
returns-then-buffer-at-lt5-clause-none c rest e =
    let at = c.args.at in
    let buffer = c.args.buffer.now in
    let place : at + 1 + 1 ≡ at + 2 = omega arith in
    let minus : get_or buffer (at + 1) 0 ≡ 45 = sym (first_of_rest buffer (at + 1)) ∙ ap (λ z. get_or z 0 0) e in
    let one : get_or buffer (at + 2) 0 ≡ 49 = ap (λ k. get_or buffer k 0) (sym place) ∙ sym (first_of_rest buffer (at + 1 + 1)) ∙
    ap (λ z. get_or z 0 0) (rest_after (45 ∷ []) (at + 1) buffer (49 ∷ crlf rest) e) in
    let long = ap length e in
    let left = length-drop (at + 1) buffer in
    elim c.then-buffer-at-lt5.branch [
      | then-buffer-at-lt5-via-then-buffer-at-lt5 w ↦ omega (arith, long, left, w.if-buffer-at-lt5.true)
      | then-buffer-at-lt5-via-else-buffer-at-lt5+then-buffer-at-ne45 w ↦ w.if-buffer-at-ne45.true minus
      | then-buffer-at-lt5-via-else-buffer-at-lt5+else-buffer-at-ne45+then-buffer-at-ne49 w ↦ w.if-buffer-at-ne49.true one
    ]
