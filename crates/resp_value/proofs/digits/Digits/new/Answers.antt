use Rattle.std.proofs.Common.{◌≡◌, inl, inr, ◌<◌, not, eqb, get_or, length, subst, sym, ap, ◌∙◌}
use Rattle.std.specs.List.{All}
use Rattle.std.proofs.lemmas.List.Elements.{recursion_from_All}
use Rattle.resp_value.specs.Numbers.{IsDigits, IsDigit, IsSignedDigits, IsKept, KeepsDigits, kept_digits}
use Rattle.resp_value.specs.Signs.{sign_at, unsigned_part}
use Rattle.resp_value.proofs.KeptDigits.{keeps_digits_if_tested, sign_split}
use Rattle.resp_value.proofs.digits.Digits.new.Goals as goal
use Rattle.resp_value.proofs.digits.Digits.new.Goals.{then-minus, else-minus, In-Ok, In-Err}

-- the digits that were made are those that the text says
made : (c : In-Ok) → KeepsDigits c.args.text.now c.if-minus.negative c.in-Ok.digits.items × IsKept c.if-minus.negative c.in-Ok.digits.items
made c =
    let unsigned : c.unsigned_part-digits.result.now ≡ unsigned_part c.args.text.now = c.unsigned_part-digits.ensures in
    let tested : (0 < length c.unsigned_part-digits.result.now) × All IsDigit c.unsigned_part-digits.result.now =
    c.are_digits.ensures.0 c.if-not-are_digits.false in
    let digits : IsDigits c.unsigned_part-digits.result.now = (tested.0, recursion_from_All IsDigit _ tested.1) in
    keeps_digits_if_tested c.args.text.now c.in-Ok.digits.items c.if-minus.negative
    (subst IsDigits unsigned digits)
    (c.in-Ok.ensures.items ∙ c.kept_part-kept.ensures ∙ ap kept_digits unsigned)
    (elim c.if-minus.branch [
      | then-minus w ↦ inl (sym w.if-minus.ensures, w.negative-is ∙ ap (λ digits. not (eqb (get_or digits 0 0) 48)) (sym c.in-Ok.ensures.items))
      | else-minus w ↦ inr (sym w.if-minus.ensures, w.negative-is ∙ w.if-minus.false)
    ])

pub invariant_of-result : goal.invariant_of-result
invariant_of-result c = record { are_kept = (made (goal.at.invariant_of-result c).In-Ok).1 }

pub returns-in-Ok-clause-kept : goal.returns-in-Ok-clause-kept
returns-in-Ok-clause-kept c = (made (goal.at.returns-in-Ok-clause-kept c).In-Ok).0

pub returns-in-Ok-clause-bad : goal.returns-in-Ok-clause-bad
returns-in-Ok-clause-bad c =
    let (sign, written, are_digits, spelled, is_negative, is_kept) = (made (goal.at.returns-in-Ok-clause-bad c).In-Ok).0 in
    (λ bad says. absurd (cc), λ none. absurd (none (sign, written, are_digits, spelled)))

-- the text that memory was refused for is a sign and digits
signed : (c : In-Err) → IsSignedDigits c.args.text.now
signed c =
    let unsigned : c.unsigned_part-digits.result.now ≡ unsigned_part c.args.text.now = c.unsigned_part-digits.ensures in
    let tested : (0 < length c.unsigned_part-digits.result.now) × All IsDigit c.unsigned_part-digits.result.now =
    c.are_digits.ensures.0 c.if-not-are_digits.false in
    let digits : IsDigits c.unsigned_part-digits.result.now = (tested.0, recursion_from_All IsDigit _ tested.1) in
    (sign_at c.args.text.now, unsigned_part c.args.text.now, subst IsDigits unsigned digits, sign_split c.args.text.now)

pub returns-in-Err-clause-bad : goal.returns-in-Err-clause-bad
returns-in-Err-clause-bad c = (λ bad says. absurd (cc), λ none. absurd (none (signed (goal.at.returns-in-Err-clause-bad c).In-Err)))

pub returns-in-Err-clause-memory_last : goal.returns-in-Err-clause-memory_last
returns-in-Err-clause-memory_last c = λ refused. signed (goal.at.returns-in-Err-clause-memory_last c).In-Err
