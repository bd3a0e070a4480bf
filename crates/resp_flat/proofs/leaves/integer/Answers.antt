use Rattle.std.proofs.Common.{◌≡◌, ◌+◌, [], ◌∷◌, to_z, of_z, w64, drop, refl, sym, ap, subst, ◌∙◌, arith, rules}
use Rattle.resp_flat.specs.Nodes.{leaf_node}
use Rattle.resp_flat.specs.Plain.{BeginsWithNumber, IsLeafAt}
use Rattle.resp_flat.proofs.LeavesRead.{integer_read, negative_read}
use Rattle.resp_flat.proofs.NoneThere.{none_if, rest_after}
use Rattle.resp_flat.proofs.leaves.integer.Goals as goal

pub returns-then-buffer-at-eq45-clause-found : goal.returns-then-buffer-at-eq45-clause-found
returns-then-buffer-at-eq45-clause-found c r first =
    subst (λ node. IsLeafAt r c.args.buffer.now c.args.at c.in_ok-found.found.end node) (sym (c.leaf.ensures ∙ ap (leaf_node 3) (let e : to_z w64 (of_z w64 c.below_zero.result) ≡ c.below_zero.result = search rules in e ∙ c.below_zero.ensures)))
    (negative_read r c.args.buffer.now c.args.at c.in_ok-found.found.number c.in_ok-found.found.end c.if-at-buffer.true first
    c.if-buffer-at-eq45.true
    (subst (λ k. BeginsWithNumber (drop k c.args.buffer.now) c.in_ok-found.found.number (drop c.in_ok-found.found.end c.args.buffer.now)) (omega arith) c.in_ok-found.ensures.number)
    c.in_ok-found.ensures.within.1 c.in_ok-found.ensures.within.0 _ refl)

pub returns-clause-found : goal.returns-clause-found
returns-clause-found c r first =
    subst (λ node. IsLeafAt r c.args.buffer.now c.args.at c.in_ok-found-2.found.end node) (sym (c.leaf-2.ensures ∙ ap (leaf_node 3) (let e : to_z w64 (of_z w64 c.from_zero.result) ≡ c.from_zero.result = search rules in e ∙ c.from_zero.ensures)))
    (integer_read r c.args.buffer.now c.args.at c.in_ok-found-2.found.number c.in_ok-found-2.found.end c.requires first
    c.in_ok-found-2.ensures.number c.in_ok-found-2.ensures.within.1 c.in_ok-found-2.ensures.within.0)

pub returns-in_err-found-clause-none_below : goal.returns-in_err-found-clause-none_below
returns-in_err-found-clause-none_below c = none_if c.from_residual.result _ (λ n more rest few e b.
    let place : c.args.at + 1 + 1 ≡ c.args.at + 2 = omega arith in
    let rest_is : drop (c.args.at + 2) c.args.buffer.now ≡ more = ap (λ k. drop k c.args.buffer.now) (sym place) ∙ rest_after (45 ∷ []) (c.args.at + 1) c.args.buffer.now more e in
    c.in_err-found.ensures.none n rest few (subst (λ z. BeginsWithNumber z n rest) (sym rest_is) b))
