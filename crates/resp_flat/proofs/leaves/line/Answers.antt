use Rattle.std.proofs.Common.{◌+◌, ◌-◌, sym, ap, subst, ◌∙◌, arith}
use Rattle.resp_value.specs.Rules.{rules_under}
use Rattle.resp_flat.specs.Nodes.{text_node}
use Rattle.resp_flat.specs.Plain.{IsLeafAt}
use Rattle.resp_flat.proofs.LeavesRead.{any_line_read, is_text}
use Rattle.resp_flat.proofs.NoneThere.{none_if}
use Rattle.resp_flat.proofs.LeavesNotThere.{same_size}
use Rattle.resp_flat.proofs.leaves.line.Goals as goal

pub returns-clause-found : goal.returns-clause-found
returns-clause-found c version k first form any =
    let n = c.in_ok-end.end - (c.args.at + 1) in
    subst (λ node. IsLeafAt (rules_under version c.args.limits.now) c.args.buffer.now c.args.at (c.in_ok-end.end + 2) node)
    (sym (c.text.ensures ∙ ap (λ f. text_node f (c.args.at + 1) n) form))
    (any_line_read (rules_under version c.args.limits.now) c.args.buffer.now c.args.at n (c.in_ok-end.end + 2) k
    (is_text c.args.buffer.now (λ i. (c.type_inv.buffer i).fits)) c.requires first c.in_ok-end.ensures.line c.in_ok-end.ensures.within.1
    (omega (arith, c.if-length.false, c.length.ensures.length)) any)

pub returns-in_err-end-clause-none : goal.returns-in_err-end-clause-none
returns-in_err-end-clause-none c = none_if c.from_residual.result _ (λ size rest few b. c.in_err-end.ensures.none size rest b)

pub returns-then-length-clause-none : goal.returns-then-length-clause-none
returns-then-length-clause-none c size rest few b =
    let same = same_size _ _ _ _ _ c.in_ok-end.ensures.line b in
    omega (arith, same, few, c.if-length.true, c.length.ensures.length)
