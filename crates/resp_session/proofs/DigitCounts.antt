-- How many digits a number has.
use Rattle.std.proofs.Common.{ℕ, ◌+◌, ◌-◌, ◌^◌, ◌<◌, ◌≤◌, cond, eqb, List, [], ◌∷◌, length, map, subst, arith}
use Rattle.std.specs.Int.Digits.{digits_of, AllBelowBase}
use Rattle.std.specs.List.{AllByRecursion}
use Rattle.std.proofs.lemmas.Bool.{cond_both}
use Rattle.std.proofs.lemmas.Int.Digits.{length-digits_of-le, number_lt}
use Rattle.std.proofs.lemmas.List.{length-map}
use Rattle.resp_value.specs.Numbers.{IsDigit, IsDigits, number, decimal}

-- a number below a power of ten has no more digits than the power
pub length-decimal : (k n : ℕ) → 0 < k → n < 10 ^ k → length (decimal n) ≤ k
length-decimal k n full small =
    let digits = cond (eqb n 0) (0 ∷ []) (digits_of 10 n) in
    let few : length digits ≤ k = cond_both (eqb n 0) (0 ∷ []) (digits_of 10 n) (λ ds. length ds ≤ k) (λ e. omega (arith, full))
    (λ e. length-digits_of-le 10 k n (omega arith) small) in
    omega (arith, few, length-map digits (λ digit. digit + 48))

digits_below_ten : (digits : List ℕ) → AllByRecursion IsDigit digits → AllBelowBase 10 (map (λ digit. digit - 48) digits)
digits_below_ten [] h = tt
digits_below_ten (d ∷ digits) h = let small : d ≤ 57 = h.0.1 in (omega (arith, small), digits_below_ten digits h.1)

-- the decimal digits of a number are no more than any digits that say it
pub decimal_is_shortest : (digits : List ℕ) → IsDigits digits → length (decimal (number digits)) ≤ length digits
decimal_is_shortest digits h =
    let values = map (λ digit. digit - 48) digits in
    let below = number_lt 10 values (digits_below_ten digits h.1) in
    length-decimal (length digits) (number digits) h.0 (subst (λ k. number digits < 10 ^ k) (length-map digits (λ digit. digit - 48)) below)
