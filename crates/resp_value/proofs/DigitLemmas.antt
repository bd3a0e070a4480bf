-- Digits: what further ones make of a number, and how many stay without leading zeros.
use Rattle.std.proofs.Common.{◌≡◌, ℕ, ◌+◌, ◌-◌, ◌*◌, ◌≤◌, Bool, true, false, cond, eqb, List, [], ◌∷◌, ◌++◌, length, map, ap, ◌∙◌, arith}
use Rattle.std.specs.Int.Digits.{number_from_digits, number_from_digits_after}
use Rattle.std.proofs.lemmas.Int.Digits.{number_after_append, number_after_ge}
use Rattle.std.proofs.lemmas.List.{map-append}
use Rattle.resp_value.specs.Numbers.{number, significant_digits}

-- the number of digits with one more after them
pub number-digit : (digits : List ℕ) (byte : ℕ) → number (digits ++ byte ∷ []) ≡ number digits * 10 + (byte - 48)
number-digit digits byte =
    ap (number_from_digits 10) (map-append (λ digit. digit - 48) digits (byte ∷ []))
    ∙ number_after_append 10 0 (map (λ digit. digit - 48) digits) ((byte - 48) ∷ [])

-- more digits make a number no less
pub number-more : (digits others : List ℕ) → number digits ≤ number (digits ++ others)
number-more digits others =
    let e : number (digits ++ others) ≡ number_from_digits_after 10 (number digits) (map (λ digit. digit - 48) others) =
    ap (number_from_digits 10) (map-append (λ digit. digit - 48) digits others)
    ∙ number_after_append 10 0 (map (λ digit. digit - 48) digits) (map (λ digit. digit - 48) others) in
    omega (arith, number_after_ge 10 (number digits) (map (λ digit. digit - 48) others))

-- digits without their leading zeros are no more
pub length-significant_digits : (digits : List ℕ) → length (significant_digits digits) ≤ length digits
length-significant_digits [] = omega arith
length-significant_digits (d ∷ ds) = cases (eqb d 48) (length-significant_digits ds)
  where
    cases : (b : Bool) → length (significant_digits ds) ≤ length ds → length (cond b (significant_digits ds) (d ∷ ds)) ≤ length (d ∷ ds)
    cases true h = omega arith
    cases false h = omega arith
