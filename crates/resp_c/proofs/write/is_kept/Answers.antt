use Rattle.std.proofs.Common.{rules, ◌≡◌, length, not, ap, arith, eq-eqb}
use Rattle.std.proofs.lemmas.List.Elements.{recursion_from_All}
use Rattle.resp_value.specs.Numbers.{IsDigit, IsDigits}
use Rattle.resp_value.proofs.KeptDigits.{kept_where_first_is_tested, kept_zero_is_alone}
use Rattle.resp_c.proofs.write.is_kept.Goals as goal
use Rattle.resp_c.proofs.write.is_kept.Goals.{Then-are_digits}

-- what was tested are digits
digits : (c : Then-are_digits) → IsDigits c.args.digits.now
digits c = let tested = c.are_digits.ensures.0 c.if-are_digits.true in
    (tested.0, recursion_from_All IsDigit c.args.digits.now tested.1)

pub returns-then-digits-ne48 : goal.returns-then-digits-ne48
returns-then-digits-ne48 c = (
  λ _. kept_where_first_is_tested c.args.negative c.args.digits.now
      (digits (goal.at.returns-then-digits-ne48 c).Then-are_digits) (λ first. absurd (c.if-digits-ne48.true first)),
  λ _. search (rules, c.if-digits-ne48.true),
)

pub returns-else-not-negative : goal.returns-else-not-negative
returns-else-not-negative c = (
  λ wrong. absurd (cc),
  λ kept. let alone = kept_zero_is_alone c.args.negative c.args.digits.now kept c.if-digits-ne48.false in
      ap not alone.0,
)

pub returns-then-not-negative : goal.returns-then-not-negative
returns-then-not-negative c = (
  λ one. kept_where_first_is_tested c.args.negative c.args.digits.now
      (digits (goal.at.returns-then-not-negative c).Then-are_digits) (λ first. (c.if-not-negative.true, search (rules, one))),
  λ kept. let alone = kept_zero_is_alone c.args.negative c.args.digits.now kept c.if-digits-ne48.false in
      let full = (digits (goal.at.returns-then-not-negative c).Then-are_digits).0 in
      let one : length c.args.digits.now ≡ 1 = omega (arith, alone.1, full) in
      eq-eqb (length c.args.digits.now) 1 one,
)
