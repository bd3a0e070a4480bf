-- Heads of one digit or two.
use Rattle.std.proofs.Common.{◌≡◌, inl, inr, ℕ, ◌+◌, ◌-◌, ◌*◌, ◌≤◌, List, [], ◌∷◌, length, drop, get_or, refl, sym, ap, ◌∙◌, arith}
use Rattle.resp_value.specs.Bytes.{crlf}
use Rattle.resp_value.specs.Numbers.{number}
use Rattle.resp_value.proofs.DigitLemmas.{number-digit}
use Rattle.resp_scan.specs.Machine.Turns.{HasShortNumber}
use Rattle.resp_scan.specs.Whole.{BeginsWithHead}

-- a text by its first bytes
first_four : (text : List ℕ) → 5 ≤ length text →
    text ≡ get_or text 0 0 ∷ get_or text 1 0 ∷ get_or text 2 0 ∷ get_or text 3 0 ∷ drop 4 text
first_four (a ∷ b ∷ c ∷ d ∷ text) h = refl
first_four [] h = absurd (omega (arith, h))
first_four (a ∷ []) h = absurd (omega (arith, h))
first_four (a ∷ b ∷ []) h = absurd (omega (arith, h))
first_four (a ∷ b ∷ c ∷ []) h = absurd (omega (arith, h))

first_five : (text : List ℕ) → 5 ≤ length text →
    text ≡ get_or text 0 0 ∷ get_or text 1 0 ∷ get_or text 2 0 ∷ get_or text 3 0 ∷ get_or text 4 0 ∷ drop 5 text
first_five (a ∷ b ∷ c ∷ d ∷ e ∷ text) h = refl
first_five [] h = absurd (omega (arith, h))
first_five (a ∷ []) h = absurd (omega (arith, h))
first_five (a ∷ b ∷ []) h = absurd (omega (arith, h))
first_five (a ∷ b ∷ c ∷ []) h = absurd (omega (arith, h))
first_five (a ∷ b ∷ c ∷ d ∷ []) h = absurd (omega (arith, h))

-- the number of one digit, and of two
of_one : (digit : ℕ) → number (digit ∷ []) ≡ digit - 48
of_one digit = let n = number-digit [] digit in omega (arith, n)

of_two : (tens ones : ℕ) → number (tens ∷ ones ∷ []) ≡ (tens - 48) * 10 + (ones - 48)
of_two tens ones = let n = number-digit (tens ∷ []) ones in let first = of_one tens in omega (arith, n, first)

-- one digit or two after a type byte, and CR LF, are a head
pub short_is_head : (text : List ℕ) (kind head n : ℕ) → 5 ≤ length text → get_or text 0 0 ≡ kind → HasShortNumber text head n →
    BeginsWithHead text kind n (drop head text)
short_is_head text kind head n long is (inl w) =
    let digit = get_or text 1 0 in record {
      digits = digit ∷ [];
      counted = ((omega arith, (w.digit, tt)), of_one digit ∙ sym w.valued);
      whole = first_four text long ∙ ap (λ b. b ∷ digit ∷ get_or text 2 0 ∷ get_or text 3 0 ∷ drop 4 text) is ∙
          ap (λ b. kind ∷ digit ∷ b ∷ get_or text 3 0 ∷ drop 4 text) w.cr ∙ ap (λ b. kind ∷ digit ∷ 13 ∷ b ∷ drop 4 text) w.lf ∙
          ap (λ k. kind ∷ digit ∷ crlf (drop k text)) (sym w.ends);
    }
short_is_head text kind head n long is (inr w) =
    let tens = get_or text 1 0 in
    let ones = get_or text 2 0 in record {
      digits = tens ∷ ones ∷ [];
      counted = ((omega arith, (w.first, (w.second, tt))), of_two tens ones ∙ sym w.valued);
      whole = first_five text long ∙ ap (λ b. b ∷ tens ∷ ones ∷ get_or text 3 0 ∷ get_or text 4 0 ∷ drop 5 text) is ∙
          ap (λ b. kind ∷ tens ∷ ones ∷ b ∷ get_or text 4 0 ∷ drop 5 text) w.cr ∙ ap (λ b. kind ∷ tens ∷ ones ∷ 13 ∷ b ∷ drop 5 text) w.lf ∙
          ap (λ k. kind ∷ tens ∷ ones ∷ crlf (drop k text)) (sym w.ends);
    }
