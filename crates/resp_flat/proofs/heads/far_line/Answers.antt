use Rattle.std.proofs.Common.{◌≤◌, length, drop, refl, ap, sym, ◌∙◌, arith}
use Rattle.std.proofs.lemmas.Bool.{eq-eqb, eqb-true}
use Rattle.std.proofs.lemmas.List.{length-take-le}
use Rattle.resp_flat.proofs.Digits.{line_found}
use Rattle.resp_flat.proofs.NoneThere.{after_line, byte_of_first, ends_at_return, line_marks, none_if}
use Rattle.resp_flat.proofs.heads.far_line.Goals as goal

pub returns-then-is_line_end-clause-line : goal.returns-then-is_line_end-clause-line
returns-then-is_line_end-clause-line c =
    let run = c.in_ok-run.run' in
    let text = c.args.text.now in
    let h = c.in_ok-run.ensures in
    let (ends, room) = c.if-is_line_end.ensures in
    let within : run ≤ length text = omega (arith, room) in
    let size = length-take-le run text within in
    line_found text run run _ within refl ends (λ j l e. h.0.before j (omega arith) l (eq-eqb _ _ e))
    (λ j l e. c.in-None.ensures j (omega arith) (omega (arith, size, l)) (eq-eqb _ _ e))

pub returns-in_err-run-clause-none : goal.returns-in_err-run-clause-none
returns-in_err-run-clause-none c = none_if c.from_residual.result _ (λ size rest b.
    let (within, at, before) = line_marks c.args.text.now size rest b in
    c.in_err-run.ensures size (omega arith) within (eq-eqb _ _ at))

pub returns-in-Some-clause-none : goal.returns-in-Some-clause-none
returns-in-Some-clause-none c size rest b =
    let run = c.in_ok-run.run' in
    let text = c.args.text.now in
    let h = c.in_ok-run.ensures in
    let place = c.in-Some.field-0 in
    let g = c.in-Some.ensures in
    let high = h.0.high in
    let within : run ≤ length text = omega (arith, high) in
    let same = ends_at_return text run (eqb-true _ _ h.1) (λ j l e. h.0.before j (omega arith) l (eq-eqb _ _ e)) size rest b in
    let long = length-take-le run text within in
    let few = g.0.high in
    let (inside, at, marks) = line_marks text size rest b in
    (marks place (omega (arith, few, long, same))).1 (sym (byte_of_first run text place (omega (arith, few, long))) ∙ eqb-true _ _ g.1)

pub returns-else-is_line_end-clause-none : goal.returns-else-is_line_end-clause-none
returns-else-is_line_end-clause-none c size rest b =
    let run = c.in_ok-run.run' in
    let text = c.args.text.now in
    let h = c.in_ok-run.ensures in
    let same = ends_at_return text run (eqb-true _ _ h.1) (λ j l e. h.0.before j (omega arith) l (eq-eqb _ _ e)) size rest b in
    c.if-is_line_end.ensures rest (ap (λ k. drop k text) (sym same) ∙ after_line text size _ b)
