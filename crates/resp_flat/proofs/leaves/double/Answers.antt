use Rattle.std.proofs.Common.{◌≡◌, ◌+◌, ◌-◌, true, false, length, take, drop, refl, sym, ap, subst, ◌∙◌, arith}
use Rattle.resp_value.specs.Doubles.{IsDouble}
use Rattle.resp_value.specs.Rules.{rules_under}
use Rattle.resp_value.proofs.Doubles.{double_is_line}
use Rattle.resp_value.proofs.Splitting.{line_split}
use Rattle.resp_flat.specs.Nodes.{text_node}
use Rattle.resp_flat.specs.Plain.{IsLeafAt}
use Rattle.resp_flat.proofs.LeavesRead.{double_read, is_text, line_taken}
use Rattle.resp_flat.proofs.NoneThere.{none_if}
use Rattle.resp_flat.proofs.LeavesNotThere.{same_size}
use Rattle.resp_flat.proofs.leaves.double.Goals as goal

pub returns-clause-found : goal.returns-clause-found
returns-clause-found c version no_two allowed first =
    let n = c.in_ok-end.end - (c.args.at + 1) in
    subst (λ node. IsLeafAt (rules_under version c.args.limits.now) c.args.buffer.now c.args.at (c.in_ok-end.end + 2) node) (sym c.text.ensures)
    (double_read (rules_under version c.args.limits.now) c.args.buffer.now c.args.at n (c.in_ok-end.end + 2)
    (is_text c.args.buffer.now (λ i. (c.type_inv.buffer i).fits)) c.requires first c.in_ok-end.ensures.line c.in_ok-end.ensures.within.1
    (omega (arith, c.if-length.false, c.length.ensures.length)) no_two allowed (c.is_double.ensures.0 c.if-not-is_double.false))

pub returns-in_err-end-clause-none : goal.returns-in_err-end-clause-none
returns-in_err-end-clause-none c = none_if c.from_residual.result _ (λ text rest double few e. c.in_err-end.ensures.none (length text) rest
    (record { line = text; is_line = double_is_line text double; sized = refl; whole = e }))

pub returns-then-length-clause-none : goal.returns-then-length-clause-none
returns-then-length-clause-none c text rest double few e =
    let same = same_size _ _ _ _ _ c.in_ok-end.ensures.line (record { line = text; is_line = double_is_line text double; sized = refl; whole = e }) in
    omega (arith, same, few, c.if-length.true, c.length.ensures.length)

pub returns-then-not-is_double-clause-none : goal.returns-then-not-is_double-clause-none
returns-then-not-is_double-clause-none c text rest double few e =
    let b = c.in_ok-end.ensures.line in
    let n = c.in_ok-end.end - (c.args.at + 1) in
    let same : b.line ≡ text = (line_split b.line text _ rest b.is_line (double_is_line text double) (sym b.whole ∙ e)).0 in
    let taken : take n (drop (c.args.at + 1) c.args.buffer.now) ≡ text = line_taken _ _ n b ∙ same in
    let wrong : false ≡ true = sym c.if-not-is_double.true ∙ c.is_double.ensures.1 (subst IsDouble (sym taken) double) in
    absurd (cc)
