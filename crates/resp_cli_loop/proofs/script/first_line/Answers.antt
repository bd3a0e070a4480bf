use Rattle.std.proofs.Common.{◌≡◌, ◌+◌, ◌∷◌, suc, length, take, drop, sym, ap, ◌∙◌, arith}
use Rattle.std.proofs.lemmas.Bool.{eqb-false, false_from_ne_true}
use Rattle.std.proofs.lemmas.List.{take_rest}
use Rattle.resp_cli_loop.specs.Scripts.{lines_of}
use Rattle.resp_cli_loop.proofs.ScriptLines.{lines_at, line_without_end}
use Rattle.resp_cli_loop.proofs.script.first_line.Goals as goal

pub returns-in-Some-clause-line : goal.returns-in-Some-clause-line
returns-in-Some-clause-line c =
    let text = c.args.text.now in
    let at = c.in-Some.at in
    let h = c.in-Some.ensures in
    let next : suc at ≡ at + 1 = omega arith in
    lines_at text at h.0.high (λ k below. false_from_ne_true _ (h.0.before k (omega arith) below)) h.1
    ∙ ap (λ n. take at text ∷ lines_of (drop n text)) next
    ∙ ap (λ z. take at text ∷ lines_of z) (sym (take_rest text (at + 1)))

pub returns-in-None-clause-line : goal.returns-in-None-clause-line
returns-in-None-clause-line c =
    let text = c.args.text.now in
    let h = c.in-None.ensures in
    let some = eqb-false (length text) 0 (sym c.is_empty.ensures ∙ c.if-is_empty.false) in
    line_without_end text (omega (arith, some)) (λ k below. false_from_ne_true _ (h k (omega arith) below))
