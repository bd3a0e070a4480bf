use Rattle.std.proofs.Common.{rules, ◌≡◌, ℕ, ◌<◌, ◌≤◌, true, false, get_or, length, List, [], ◌∷◌, arith, subst, refl, sym, ◌∙◌, vec_len}
use Rattle.std.proofs.lemmas.List.Elements.{recursion_from_All}
use Rattle.resp_value.specs.Numbers.{IsDigits, IsDigit}
use Rattle.resp_value.proofs.KeptDigits.{kept_where_first_is_tested, kept_zero_is_alone}
use Rattle.resp_value.proofs.digits.Digits.of_kept.Goals as goal
use Rattle.resp_value.proofs.digits.Digits.of_kept.Goals.{else-begins_with_zero-via-then-begins_with_zero+else-len-gt1, then-negative, else-negative, else-begins_with_zero-via-else-begins_with_zero}

-- the first of some bytes hangs on no default
first_byte : (digits : List ℕ) (one other : ℕ) → 0 < length digits → get_or digits 0 one ≡ get_or digits 0 other
first_byte [] one other full = absurd (omega arith)
first_byte (c ∷ cs) one other full = refl

pub returns-then-len-gt1-clause-kept : goal.returns-then-len-gt1-clause-kept
returns-then-len-gt1-clause-kept c =
    let tested = c.are_digits.ensures.0 c.if-not-are_digits.false in
    let full : 0 < length c.args.digits.items = subst (λ z. 0 < length z) c.as_slice.ensures.value tested.0 in
    let first : get_or c.args.digits.items 0 0 ≡ 48 = first_byte c.args.digits.items 0 c.index.result.now full ∙ sym c.index.ensures ∙
    c.if-begins_with_zero.true in (
      λ wrong. absurd (cc),
      λ kept.
          let alone = kept_zero_is_alone c.args.negative c.args.digits.items kept first in
          let few : vec_len c.args.digits ≤ 1 = omega (arith, alone.1, c.args.digits.ok.0) in
          absurd (elim c.if-negative.branch [
            | then-negative w ↦ let wrong : true ≡ false = sym w.if-negative.true ∙ alone.0 in cc
            | else-negative w ↦ search (rules, few, w.value-is, c.if-len-gt1.true)
          ]),
    )

pub invariant_of-result : goal.invariant_of-result
invariant_of-result c =
    let tested = c.are_digits.ensures.0 c.if-not-are_digits.false in
    let same : c.as_slice.result.now ≡ c.args.digits.items = c.as_slice.ensures.value in
    let digits : IsDigits c.args.digits.items = subst IsDigits same (tested.0, recursion_from_All IsDigit _ tested.1) in
    record {
      are_kept = kept_where_first_is_tested c.args.negative c.args.digits.items digits (λ first.
          let begins : c.index.result.now ≡ 48 = c.index.ensures ∙ first_byte c.args.digits.items c.index.result.now 0 digits.0 ∙ first in
          elim c.else-begins_with_zero.branch [
            | else-begins_with_zero-via-then-begins_with_zero+else-len-gt1 w ↦ elim w.if-negative.branch [
              | then-negative w' ↦ let wrong : true ≡ false = search (rules, w'.value-is, w.if-len-gt1.false) in absurd (cc)
              | else-negative w' ↦ (w'.if-negative.false, search rules)
            ]
            | else-begins_with_zero-via-else-begins_with_zero w ↦ absurd (w.if-begins_with_zero.false begins)
          ]);
    }
