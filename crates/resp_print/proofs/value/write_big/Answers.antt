use Rattle.std.proofs.Common.{◌++◌, codes, subst, ap, ◌∙◌}
use Rattle.resp_value.specs.Values.{digits_text}
use Rattle.resp_print.specs.Printed.{big_word}
use Rattle.resp_print.specs.Written.{WritesText}
use Rattle.resp_print.proofs.WrittenLemmas.{writes_next, writes_part}
use Rattle.resp_print.proofs.value.write_big.Goals as goal

pub returns-in_err-write_text : goal.returns-in_err-write_text
returns-in_err-write_text g c =
    let r = c.from_residual.result in
    let digits = digits_text c.args.digits.now ++ codes "\n" in
    subst (WritesText _ _ _ _ r) (ap (λ z. z ++ digits) (c.big_word-word.ensures ∙ ap big_word c.is_negative.ensures))
    (writes_part r _ _ _ _ c.big_word-word.result.now digits c.from_residual.ensures.0 c.in_err-write_text.ensures)

pub returns-in_err-write_text-2 : goal.returns-in_err-write_text-2
returns-in_err-write_text-2 g c =
    let r = c.from_residual-in_err-write_text-2.result in
    let digits = digits_text c.args.digits.now ++ codes "\n" in
    subst (WritesText _ _ _ _ r) (ap (λ z. z ++ digits) (c.big_word-word.ensures ∙ ap big_word c.is_negative.ensures))
    (writes_next r _ _ _ _ _ _ c.big_word-word.result.now digits c.in_ok-write_text.ensures
    (subst (WritesText _ _ _ _ r) (ap (λ z. z ++ codes "\n") c.digits.ensures.digits)
    (writes_part r _ _ _ _ c.digits.result.now (codes "\n") c.from_residual-in_err-write_text-2.ensures.0 c.in_err-write_text-2.ensures)))

pub returns : goal.returns
returns g c =
    let r = c.write_text-3.result in
    let digits = digits_text c.args.digits.now ++ codes "\n" in
    subst (WritesText _ _ _ _ r) (ap (λ z. z ++ digits) (c.big_word-word.ensures ∙ ap big_word c.is_negative.ensures))
    (writes_next r _ _ _ _ _ _ c.big_word-word.result.now digits c.in_ok-write_text.ensures
    (subst (WritesText _ _ _ _ r) (ap (λ z. z ++ codes "\n") c.digits.ensures.digits)
    (writes_next r _ _ _ _ _ _ c.digits.result.now (codes "\n") c.in_ok-write_text-2.ensures c.write_text-3.ensures)))
