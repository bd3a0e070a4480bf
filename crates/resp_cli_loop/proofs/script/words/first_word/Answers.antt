use Rattle.std.proofs.Common.{length, take, eqb, sym, ap, ◌∙◌, arith}
use Rattle.std.proofs.lemmas.Bool.{false_from_ne_true}
use Rattle.std.proofs.lemmas.List.{take_all}
use Rattle.std.proofs.lemmas.List.Sums.{position_or_len_is}
use Rattle.resp_cli_loop.proofs.script.words.first_word.Goals as goal

pub returns-in-Some : goal.returns-in-Some
returns-in-Some c =
    let line = c.args.line.now in
    let h = c.in-Some.ensures in
    ap (λ n. take n line)
    (sym (position_or_len_is (λ b. eqb b 32) line c.in-Some.at 0 (omega (arith, h.0.high))
    (λ k below. false_from_ne_true _ (h.0.before k (omega arith) below)) (λ l. h.1)))

pub returns-in-None : goal.returns-in-None
returns-in-None c =
    let line = c.args.line.now in
    let h = c.in-None.ensures in
    sym (take_all (length line) line (omega arith))
    ∙ ap (λ n. take n line)
    (sym (position_or_len_is (λ b. eqb b 32) line (length line) 0 (omega arith)
    (λ k below. false_from_ne_true _ (h k (omega arith) below)) (λ l. absurd (omega (arith, l)))))
