-- The digits at the beginning of a text, and the heads that begin with them.
use Rattle.std.proofs.Common.{◌≡◌, ℕ, suc, drop, get_or, length-drop, ◌+◌, ◌-◌, ◌*◌, ◌<◌, ◌≤◌, List, [], ◌∷◌, ◌++◌, length, refl, sym, ap, ◌∙◌, arith, append_assoc, append-nil, length-append, Option, None, Some, IfNone}
use Rattle.std.specs.List.{AllByRecursion}
use Rattle.std.proofs.Math.Seq.{drop-cons}
use Rattle.std.proofs.lemmas.List.{get_or-drop}
use Rattle.resp_value.specs.Bytes.{crlf}
use Rattle.resp_value.specs.Numbers.{IsDigit, number}
use Rattle.resp_value.proofs.DigitLemmas.{number-digit, number-more}
use Rattle.resp_value.proofs.FirstBytes.{all_append}
use Rattle.resp_scan.specs.Whole.{BeginsWithHead}
use Rattle.resp_scan.specs.Machine.Wholes.{BeginsWithDigits, HasNoDigit, HasTooMany}

-- no digit has been read
pub no_digit_yet : (text : List ℕ) → BeginsWithDigits text 0 text
no_digit_yet text = record { digits = []; are = tt; counted = refl; whole = refl }

-- one digit more
pub one_digit_more : (text : List ℕ) (n byte : ℕ) (rest after : List ℕ) → BeginsWithDigits text n rest → rest ≡ byte ∷ after → 48 ≤ byte → byte ≤ 57 →
    BeginsWithDigits text (n * 10 + (byte - 48)) after
one_digit_more text n byte rest after b is low high = record {
  digits = b.digits ++ byte ∷ [];
  are = all_append IsDigit b.digits (byte ∷ []) b.are ((low, high), tt);
  counted = number-digit b.digits byte ∙ ap (λ m. m * 10 + (byte - 48)) b.counted;
  whole = b.whole ∙ ap (λ l. b.digits ++ l) is ∙ sym (append_assoc b.digits (byte ∷ []) after);
}

-- the first digits of a line of digits
digits_of_line : (ds es rest x : List ℕ) → AllByRecursion IsDigit ds → AllByRecursion IsDigit es → ds ++ rest ≡ es ++ 13 ∷ x →
    (more : List ℕ) × (es ≡ ds ++ more) × (rest ≡ more ++ 13 ∷ x) × AllByRecursion IsDigit more
digits_of_line [] es rest x p q e = (es, refl, e, q)
digits_of_line (d ∷ ds) [] rest x p q e = let h : d ≡ 13 = cc in absurd (omega (arith, h, p.0.0))
digits_of_line (d ∷ ds) (f ∷ es) rest x p q e =
    let t : ds ++ rest ≡ es ++ 13 ∷ x = cc in
    let h : d ≡ f = cc in
    let (more, a, b, r) = digits_of_line ds es rest x p.1 q.1 t in
    (more, cc, b, r)

-- a head by its type byte
pub line_of_head : (text : List ℕ) (kind n first : ℕ) (line rest : List ℕ) (b : BeginsWithHead text kind n rest) → text ≡ first ∷ line →
    (first ≡ kind) × (line ≡ b.digits ++ crlf rest)
line_of_head text kind n first line rest b is =
    let e : first ∷ line ≡ kind ∷ (b.digits ++ crlf rest) = sym is ∙ b.whole in
    (cc, cc)

-- a head does not begin with digits of a greater number
pub not_too_many : (text : List ℕ) (kind n first most : ℕ) (line rest : List ℕ) → HasTooMany line most → text ≡ first ∷ line → n ≤ most →
    BeginsWithHead text kind n rest → ⊥
not_too_many text kind n first most line rest many is few b =
    let e = (line_of_head text kind n first line rest b is).1 in
    let (more, a, after, r) = digits_of_line many.begins.digits b.digits many.rest (10 ∷ rest) many.begins.are b.counted.0.1 (sym many.begins.whole ∙ e) in
    let same : number b.digits ≡ number (many.begins.digits ++ more) = ap number a in
    omega (arith, number-more many.begins.digits more, same, b.counted.1, many.begins.counted, many.more, few)

-- the digits at the beginning of a head are all of its digits
pub all_digits : (text : List ℕ) (kind n m first : ℕ) (line after rest : List ℕ) (found : BeginsWithDigits line m after) → HasNoDigit after →
    text ≡ first ∷ line → (b : BeginsWithHead text kind n rest) → (b.digits ≡ found.digits) × (after ≡ crlf rest)
all_digits text kind n m first line after rest found ends is b =
    let e = (line_of_head text kind n first line rest b is).1 in
    let (more, a, whole, r) = digits_of_line found.digits b.digits after (10 ∷ rest) found.are b.counted.0.1 (sym found.whole ∙ e) in
    done more a whole r
  where
    done : (more : List ℕ) → b.digits ≡ found.digits ++ more → after ≡ more ++ 13 ∷ 10 ∷ rest → AllByRecursion IsDigit more →
        (b.digits ≡ found.digits) × (after ≡ crlf rest)
    done [] a whole r = (a ∙ append-nil found.digits, whole)
    done (d ∷ more) a whole r = absurd (ends d (more ++ 13 ∷ 10 ∷ rest) whole r.0)

-- no head has no digit
pub some_digit : (text : List ℕ) (kind n m first : ℕ) (line after rest : List ℕ) → BeginsWithDigits line m after → HasNoDigit after →
    text ≡ first ∷ line → length after ≡ length line → BeginsWithHead text kind n rest → ⊥
some_digit text kind n m first line after rest found ends is size b =
    let whole : length line ≡ length found.digits + length after = ap length found.whole ∙ length-append found.digits after in
    let same : length b.digits ≡ length found.digits = ap length (all_digits text kind n m first line after rest found ends is b).0 in
    omega (arith, whole, same, size, b.counted.0.0)

-- what holds in any case holds where nothing was found
pub holds_at_none : {T P : Type 0} (result : Option T) → P → IfNone result P
holds_at_none None p = p
holds_at_none (Some found) p = tt

-- the bytes from a place on, by the first
pub byte_first : (text : List ℕ) (n : ℕ) → n < length text → drop n text ≡ get_or text n 0 ∷ drop (n + 1) text
byte_first text n within = drop-cons text n 0 within ∙ (let e : suc n ≡ n + 1 = omega arith in ap (λ k. get_or text n 0 ∷ drop k text) e)

-- no CR LF at a place
pub no_line_end : (text : List ℕ) (n : ℕ) (rest : List ℕ) → drop n text ≡ crlf rest →
    (n + 2 ≤ length text) × (get_or text n 0 ≡ 13) × (get_or text (n + 1) 0 ≡ 10)
no_line_end text n rest e =
    let size = ap length e in
    let whole = length-drop n text in
    let zero_more : n + 0 ≡ n = omega arith in (
      omega (arith, size, whole),
      ap (λ k. get_or text k 0) (sym zero_more) ∙ sym (get_or-drop n text 0 0) ∙ ap (λ l. get_or l 0 0) e,
      sym (get_or-drop n text 1 0) ∙ ap (λ l. get_or l 1 0) e,
    )

-- a head is not empty
pub head_first : (text : List ℕ) (kind n : ℕ) (rest : List ℕ) → BeginsWithHead text kind n rest → text ≡ get_or text 0 0 ∷ drop 1 text
head_first text kind n rest b = b.whole ∙ sym (ap (λ t. get_or t 0 0 ∷ drop 1 t) b.whole)
