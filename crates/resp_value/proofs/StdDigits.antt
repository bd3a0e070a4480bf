-- The digits that the standard library prints.
use Rattle.std.proofs.Common.{◌≡◌, ◌⊎◌, inl, inr, ◌≢◌, ℕ, ◌+◌, ◌^◌, ◌<◌, true, false, eqb, List, [], ◌∷◌, map, refl, ◌∙◌, arith}
use Rattle.std.specs.Fmt as fmt
use Rattle.std.specs.Int.Digits.{digits_of}
use Rattle.std.proofs.lemmas.Fmt.{decimal_digit, decimal-digits_of}
use Rattle.std.proofs.lemmas.Bool.Decides.{eqb_tells}
use Rattle.resp_value.specs.Numbers.{decimal}

add_48 : (digits : List ℕ) → map (λ digit. 48 + digit) digits ≡ map (λ digit. digit + 48) digits
add_48 [] = refl
add_48 (d ∷ digits) = let h : 48 + d ≡ d + 48 = omega arith in let t : map (λ digit. 48 + digit) digits ≡
    map (λ digit. digit + 48) digits = add_48 digits in cc

-- the digits that std prints are the decimal digits
pub decimal-std : (n : ℕ) → n < 2 ^ 64 → fmt.decimal n ≡ decimal n
decimal-std n fits = cases (eqb_tells n 0)
  where
    cases : ((eqb n 0 ≡ true) × (n ≡ 0)) ⊎ ((eqb n 0 ≡ false) × (n ≢ 0)) → fmt.decimal n ≡ decimal n
    cases (inl p) = rw p.1 (decimal_digit 0 (omega arith))
    cases (inr p) = rw p.0 (decimal-digits_of n (let q : n ≢ 0 = p.1 in omega arith) fits ∙ add_48 (digits_of 10 n))
