use Rattle.std.proofs.Common.{◌-◌, ◌*◌, ◌≤◌, ◌≡◌, ℕ, ◌++◌, replicate, subst, sym, ap, ◌∙◌, arith}
use Rattle.std.proofs.lemmas.List.{replicate-append-replicate, take-replicate}
use Rattle.resp_print.specs.Shown.{indentation}
use Rattle.resp_print.specs.Written.{WritesText}
use Rattle.resp_print.proofs.WrittenLemmas.{writes_next}
use Rattle.resp_print.proofs.Printing.{printed_as, printed_more, write_failed}
use Rattle.resp_print.proofs.text.write_indentation.Goals as goal

-- the spaces of 128 levels, and the others
first_levels : (n : ℕ) → 128 ≤ n → indentation n ≡ replicate 256 32 ++ indentation (n - 128)
first_levels n more =
    ap (λ k. replicate k 32) (omega (arith, more)) ∙ sym (replicate-append-replicate 256 (2 * (n - 128)) 32)

pub returns-in_err-write_text : goal.returns-in_err-write_text
returns-in_err-write_text g c =
    let left = c.loop-left.left in
    write_failed c.from_residual.result (indentation c.args.level) (replicate 256 32) (indentation (left - 128)) _ _ _ _ _ _
    (printed_as (indentation c.args.level) _ _ _ _ _ _ (first_levels left (omega (arith, c.loop-left-test.true))) c.loop-left.invariant)
    c.from_residual.ensures.0 c.in_err-write_text.ensures

pub loop-left-preserved : goal.loop-left-preserved
loop-left-preserved g c =
    let left = c.loop-left.left in
    printed_more (indentation c.args.level) (replicate 256 32) (indentation (left - 128)) _ _ _ _ _ _
    (printed_as (indentation c.args.level) _ _ _ _ _ _ (first_levels left (omega (arith, c.loop-left-test.true))) c.loop-left.invariant)
    c.in_ok-write_text.ensures

pub returns : goal.returns
returns g c =
    let (front, e, written) = c.loop-left.invariant in
    subst (WritesText _ _ _ _ c.write_text-2.result) (sym e)
    (writes_next c.write_text-2.result _ _ _ _ _ _ front (indentation c.loop-left.left) written
    (subst (WritesText _ _ _ _ c.write_text-2.result) (take-replicate (2 * c.loop-left.left) 256 32 (omega (arith, c.loop-left-test.false))) c.write_text-2.ensures))
