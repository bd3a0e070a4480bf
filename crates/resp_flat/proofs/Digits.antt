-- The digits of a number, and lines.
use Rattle.std.proofs.Common.{◌≡◌, ℕ, zero, suc, take, drop, get_or, ◌+◌, ◌-◌, ◌*◌, ◌<◌, ◌≤◌, List, [], ◌∷◌, ◌++◌, length, refl, sym, ap, ◌∙◌, arith, append_assoc, length-append}
use Rattle.std.specs.List.{AllByRecursion}
use Rattle.std.proofs.Math.Seq.{drop-cons}
use Rattle.std.proofs.lemmas.List.{length-take-le, take-append-drop}
use Rattle.resp_value.specs.Bytes.{IsLine, IsPlain, crlf}
use Rattle.resp_value.specs.Numbers.{IsDigit, number}
use Rattle.resp_value.proofs.DigitLemmas.{number-digit}
use Rattle.resp_value.proofs.FirstBytes.{all_append}
use Rattle.resp_flat.specs.Plain.{BeginsWithLine, BeginsWithNumber}

-- the bytes from a place on, by the first
pub byte_first : (text : List ℕ) (n : ℕ) → n < length text → drop n text ≡ get_or text n 0 ∷ drop (n + 1) text
byte_first text n within = drop-cons text n 0 within ∙ (let e : suc n ≡ n + 1 = omega arith in ap (λ k. get_or text n 0 ∷ drop k text) e)

-- the text begins with this many digits of this number, and then has this rest
pub record HasDigits (text : List ℕ) (many n : ℕ) (rest : List ℕ) : Type 0 where
  pub digits : List ℕ
  pub are : AllByRecursion IsDigit digits
  pub size : length digits ≡ many
  pub counted : number digits ≡ n
  pub whole : text ≡ digits ++ rest

-- no digit has been read
pub no_digit_yet : (text : List ℕ) (many : ℕ) → many ≡ 0 → HasDigits text many 0 text
no_digit_yet text many none = record { digits = []; are = tt; size = sym none; counted = refl; whole = refl }

-- one digit more
pub one_digit_more : (text : List ℕ) (many n byte : ℕ) (rest after : List ℕ) → HasDigits text many n rest → rest ≡ byte ∷ after → 48 ≤ byte → byte ≤ 57 →
    (next : ℕ) → next ≡ many + 1 → HasDigits text next (n * 10 + (byte - 48)) after
one_digit_more text many n byte rest after b is low high next e = record {
  digits = b.digits ++ byte ∷ [];
  are = all_append IsDigit b.digits (byte ∷ []) b.are ((low, high), tt);
  size = length-append b.digits (byte ∷ []) ∙ ap (λ k. k + 1) b.size ∙ sym e;
  counted = number-digit b.digits byte ∙ ap (λ m. m * 10 + (byte - 48)) b.counted;
  whole = b.whole ∙ ap (λ l. b.digits ++ l) is ∙ sym (append_assoc b.digits (byte ∷ []) after);
}

-- one byte more
pub one_byte_more : (text : List ℕ) (many byte : ℕ) (rest after : List ℕ) → BeginsWithLine text many rest → rest ≡ byte ∷ after → IsPlain byte →
    (next : ℕ) → next ≡ many + 1 → BeginsWithLine text next after
one_byte_more text many byte rest after b is plain next e = record {
  line = b.line ++ byte ∷ [];
  is_line = all_append IsPlain b.line (byte ∷ []) b.is_line (plain, tt);
  sized = length-append b.line (byte ∷ []) ∙ ap (λ k. k + 1) b.sized ∙ sym e;
  whole = b.whole ∙ ap (λ l. b.line ++ l) is ∙ sym (append_assoc b.line (byte ∷ []) after);
}

-- the first bytes are neither CR nor LF
plain_first : (n : ℕ) (text : List ℕ) → ((j : ℕ) → j < n → get_or text j 0 ≡ 13 → ⊥) → ((j : ℕ) → j < n → get_or (take n text) j 0 ≡ 10 → ⊥) →
    IsLine (take n text)
plain_first zero text no_cr no_lf = tt
plain_first (suc n) [] no_cr no_lf = tt
plain_first (suc n) (b ∷ bs) no_cr no_lf = (
  (λ e. no_cr zero (omega arith) e, λ e. no_lf zero (omega arith) e),
  plain_first n bs (λ j l. no_cr (suc j) (omega arith)) (λ j l. no_lf (suc j) (omega arith)),
)

-- the bytes before the first CR, if they have no LF
pub line_found : (text : List ℕ) (n m : ℕ) (after : List ℕ) → n ≤ length text → m ≡ n → drop n text ≡ after → ((j : ℕ) → j < n → get_or text j 0 ≡ 13 → ⊥) →
    ((j : ℕ) → j < n → get_or (take n text) j 0 ≡ 10 → ⊥) → BeginsWithLine text m after
line_found text n m after within e left no_cr no_lf = record {
  line = take n text;
  is_line = plain_first n text no_cr no_lf;
  sized = length-take-le n text within ∙ sym e;
  whole = sym (take-append-drop n text) ∙ ap (λ l. take n text ++ l) left;
}
