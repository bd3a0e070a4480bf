use Rattle.std.proofs.Common.{◌≡◌, ◌++◌, List, ℕ, codes, ap, subst, ◌∙◌}
use Rattle.resp_value.specs.Values.{digits_text, is_negative}
use Rattle.resp_json.specs.Json.{big_front}
use Rattle.resp_print.proofs.WrittenLemmas.{writes_next, writes_part}
use Rattle.resp_print.specs.Written.{WritesText}
use Rattle.resp_json.proofs.value.write_big.Goals as goal

same_parts : (front front' digits digits' : List ℕ) → front ≡ front' → digits ≡ digits' → front ++ (digits ++ codes "\"}") ≡ front' ++ (digits' ++ codes "\"}")
same_parts front front' digits digits' e f = ap (λ z. z ++ (digits ++ codes "\"}")) e ∙ ap (λ z. front' ++ (z ++ codes "\"}")) f

pub returns-in_err-write_text : goal.returns-in_err-write_text
returns-in_err-write_text g c =
    let front = c.big_front-front.result.now in
    let is : front ≡ big_front (is_negative c.args.digits.now) = c.big_front-front.ensures ∙ ap big_front c.is_negative.ensures in
    subst (WritesText _ _ _ _ c.from_residual.result) (ap (λ z. z ++ (digits_text c.args.digits.now ++ codes "\"}")) is)
    (writes_part c.from_residual.result _ _ _ _ front (digits_text c.args.digits.now ++ codes "\"}") c.from_residual.ensures.0 c.in_err-write_text.ensures)

pub returns-in_err-write_text-2 : goal.returns-in_err-write_text-2
returns-in_err-write_text-2 g c =
    let front = c.big_front-front.result.now in
    let digits = c.digits.result.now in
    let is : front ≡ big_front (is_negative c.args.digits.now) = c.big_front-front.ensures ∙ ap big_front c.is_negative.ensures in
    let r = c.from_residual-in_err-write_text-2.result in
    subst (WritesText _ _ _ _ r) (same_parts front (big_front (is_negative c.args.digits.now)) digits (digits_text c.args.digits.now) is c.digits.ensures.digits)
    (writes_next r _ _ _ _ _ _ front (digits ++ codes "\"}") c.in_ok-write_text.ensures
    (writes_part r _ _ _ _ digits (codes "\"}") c.from_residual-in_err-write_text-2.ensures.0 c.in_err-write_text-2.ensures))

pub returns : goal.returns
returns g c =
    let front = c.big_front-front.result.now in
    let digits = c.digits.result.now in
    let is : front ≡ big_front (is_negative c.args.digits.now) = c.big_front-front.ensures ∙ ap big_front c.is_negative.ensures in
    let r = c.write_text-3.result in
    subst (WritesText _ _ _ _ r) (same_parts front (big_front (is_negative c.args.digits.now)) digits (digits_text c.args.digits.now) is c.digits.ensures.digits)
    (writes_next r _ _ _ _ _ _ front (digits ++ codes "\"}") c.in_ok-write_text.ensures
    (writes_next r _ _ _ _ _ _ digits (codes "\"}") c.in_ok-write_text-2.ensures c.write_text-3.ensures))
