use Rattle.std.proofs.Common.{◌≡◌, ◌∷◌, ◌+◌, ◌-◌, drop, get_or, sym, ap, subst, ◌∙◌, arith}
use Rattle.std.proofs.lemmas.List.{drop-drop, take_rest}
use Rattle.resp_value.specs.Bytes.{crlf}
use Rattle.resp_flat.specs.Plain.{BeginsWithLine}
use Rattle.resp_flat.proofs.Digits.{byte_first, one_byte_more}
use Rattle.resp_flat.proofs.NoneThere.{no_line_at_newline, no_line_at_return, none_if}
use Rattle.resp_flat.proofs.heads.line_end.Goals as goal
use Rattle.resp_flat.proofs.heads.line_end.Goals.{then-byte-eq13-via-then-byte-eq13, then-byte-eq13-via-else-byte-eq13+then-byte-eq10}

pub loop-end-preserved : goal.loop-end-preserved
loop-end-preserved c = one_byte_more (drop c.args.at c.args.buffer.now) (c.loop-end.end - c.args.at) (get_or c.args.buffer.now c.loop-end.end 0)
    (drop c.loop-end.end c.args.buffer.now) (drop (c.loop-end.end + 1) c.args.buffer.now) c.loop-end.invariant
    (byte_first c.args.buffer.now c.loop-end.end (omega (arith, c.loop-end-test.true, c.min-end-end.ensures))) (c.if-byte-eq13.false, c.if-byte-eq10.false)
    (c.loop-end.end + 1 - c.args.at) (omega (arith, c.loop-end.auto.end))

pub returns-clause-line : goal.returns-clause-line
returns-clause-line c =
    let run = c.in_ok-run.run' in
    let at = c.args.at in
    let buffer = c.args.buffer.now in
    let place : at + (run + 2) ≡ at + run + 2 = omega arith in
    let begun : BeginsWithLine (drop at buffer) run (crlf (drop (run + 2) (drop at buffer))) =
    subst (λ z. BeginsWithLine z run (crlf (drop (run + 2) z))) (take_rest buffer at) c.in_ok-run.ensures.line in
    subst (λ k. BeginsWithLine (drop at buffer) k (crlf (drop (at + run + 2) buffer))) (omega arith)
    (subst (λ z. BeginsWithLine (drop at buffer) run (crlf z)) (drop-drop (run + 2) at buffer ∙ ap (λ k. drop k buffer) place) begun)

pub returns-else-is_line_end-clause-none : goal.returns-else-is_line_end-clause-none
returns-else-is_line_end-clause-none c size rest b =
    let text = drop c.args.at c.args.buffer.now in
    let many = c.loop-end.end - c.args.at in
    let here = drop c.loop-end.end c.args.buffer.now in
    let more = drop (c.loop-end.end + 1) c.args.buffer.now in
    let first = byte_first c.args.buffer.now c.loop-end.end (omega (arith, c.loop-end-test.true, c.min-end-end.ensures)) in
    elim c.then-byte-eq13.branch [
      | then-byte-eq13-via-then-byte-eq13 w ↦
          no_line_at_return text many here more c.loop-end.invariant (first ∙ ap (λ z. z ∷ more) w.if-byte-eq13.true) c.if-is_line_end.ensures size rest b
      | then-byte-eq13-via-else-byte-eq13+then-byte-eq10 w ↦
          no_line_at_newline text many here more c.loop-end.invariant (first ∙ ap (λ z. z ∷ more) w.if-byte-eq10.true) size rest b
    ]

pub returns-in_err-run-clause-none : goal.returns-in_err-run-clause-none
returns-in_err-run-clause-none c = none_if c.from_residual.result _ (λ size rest b.
    c.in_err-run.ensures.none size rest
    (subst (λ z. BeginsWithLine z size (crlf rest)) (sym (take_rest c.args.buffer.now c.args.at)) b))
