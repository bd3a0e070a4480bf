use Rattle.std.proofs.Common.{◌≡◌, ℕ, ◌+◌, Bool, true, false, List, [], ◌∷◌, ◌++◌, drop, length, refl, sym, ap, subst, arith, length-drop}
use Rattle.resp_value.specs.Trees.{truth_line}
use Rattle.resp_flat.specs.Plain.{IsLeafAt}
use Rattle.resp_value.specs.Bytes.{crlf}
use Rattle.resp_flat.proofs.LeavesRead.{truth_read}
use Rattle.resp_flat.proofs.NoneThere.{rest_after}
use Rattle.resp_flat.proofs.leaves.truth.Goals as goal
use Rattle.resp_flat.proofs.leaves.truth.Goals.{then-buffer-at-lt4-via-then-buffer-at-lt4, then-buffer-at-lt4-via-else-buffer-at-lt4+then-not-is_line_end}

pub returns-in-116-clause-found : goal.returns-in-116-clause-found
returns-in-116-clause-found c r three first =
    let (ends, within) = c.if-not-is_line_end.ensures in
    subst (λ node. IsLeafAt r c.args.buffer.now c.args.at (c.args.at + 4) node) (sym c.leaf.ensures)
    (truth_read r c.args.buffer.now c.args.at (c.args.at + 4) true 116 three (omega (arith, within)) first c.in-116.is refl
    (subst (λ k. drop (c.args.at + 2) c.args.buffer.now ≡ crlf (drop k c.args.buffer.now)) (omega arith) ends) (omega (arith, within)))

pub returns-in-102-clause-found : goal.returns-in-102-clause-found
returns-in-102-clause-found c r three first =
    let (ends, within) = c.if-not-is_line_end.ensures in
    subst (λ node. IsLeafAt r c.args.buffer.now c.args.at (c.args.at + 4) node) (sym c.leaf-in-102.ensures)
    (truth_read r c.args.buffer.now c.args.at (c.args.at + 4) false 102 three (omega (arith, within)) first c.in-102.is refl
    (subst (λ k. drop (c.args.at + 2) c.args.buffer.now ≡ crlf (drop k c.args.buffer.now)) (omega arith) ends) (omega (arith, within)))

pub returns-then-buffer-at-lt4-clause-none : goal.returns-then-buffer-at-lt4-clause-none
returns-then-buffer-at-lt4-clause-none c = cases
  where
    of_byte : (b : ℕ) (rest : List ℕ) → drop c.args.at c.args.buffer.now ≡ 35 ∷ b ∷ crlf rest → ⊥
    of_byte b rest e =
        let long = ap length e in
        let left = length-drop c.args.at c.args.buffer.now in
        elim c.then-buffer-at-lt4.branch [
          | then-buffer-at-lt4-via-then-buffer-at-lt4 w ↦ omega (arith, long, left, w.if-buffer-at-lt4.true)
          | then-buffer-at-lt4-via-else-buffer-at-lt4+then-not-is_line_end w ↦
              w.if-not-is_line_end.ensures rest (rest_after (35 ∷ b ∷ []) c.args.at c.args.buffer.now (crlf rest) e)
        ]

    cases : (t : Bool) (rest : List ℕ) → drop c.args.at c.args.buffer.now ≡ truth_line t ++ crlf rest → ⊥
    cases true rest e = of_byte 116 rest e
    cases false rest e = of_byte 102 rest e
