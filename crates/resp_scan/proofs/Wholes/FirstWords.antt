-- Reading the first of several bulk strings that a text begins with.
use Rattle.std.proofs.Common.{◌≡◌, ℕ, ◌+◌, ◌*◌, ◌-◌, ◌≤◌, List, [], ◌∷◌, ◌++◌, length, take, drop, get_or, refl, sym, ap, subst, ◌∙◌, arith, append_assoc, append-nil, length-append}
use Rattle.std.specs.List.{AllByRecursion}
use Rattle.std.proofs.Math.Seq.{drop-append-add, drop-append_seam, take-append_seam}
use Rattle.resp_value.specs.Bytes.{crlf}
use Rattle.resp_value.specs.Numbers.{IsDigit, number}
use Rattle.resp_value.proofs.DigitLemmas.{number-digit, number-more}
use Rattle.resp_scan.specs.Whole.{BeginsWithWord}

-- the first digits of the head of a bulk string have this number, and the others and the content come from this place on
pub record ReadsHead (text : List ℕ) (end n : ℕ) : Type 0 where
  pub word : List ℕ
  pub rest : List ℕ
  pub done : List ℕ
  pub more : List ℕ
  pub begins : BeginsWithWord 1073741824 text word rest
  pub split : begins.digits ≡ done ++ more
  pub digits : AllByRecursion IsDigit more
  pub counted : number done ≡ n
  pub place : end ≡ length (36 ∷ done)

-- the bytes from this place on
from_place : (text : List ℕ) (end n : ℕ) (r : ReadsHead text end n) → text ≡ (36 ∷ r.done) ++ (r.more ++ crlf (r.word ++ crlf r.rest))
from_place text end n r = r.begins.whole ∙ ap (λ l. (36 ∷ l) ++ crlf (r.word ++ crlf r.rest)) r.split ∙
    append_assoc (36 ∷ r.done) r.more (crlf (r.word ++ crlf r.rest))

-- the item after some others
item_after : (front back : List ℕ) (i : ℕ) (b : ℕ) (bs : List ℕ) → i ≡ length front → back ≡ b ∷ bs → get_or (front ++ back) i 0 ≡ b
item_after [] back i b bs e is = ap (λ k. get_or back k 0) e ∙ ap (λ l. get_or l 0 0) is
item_after (f ∷ front) back i b bs e is = ap (λ k. get_or (f ∷ (front ++ back)) k 0) e ∙ item_after front back (length front) b bs refl is

-- no digit is left
pub at_return : (text : List ℕ) (end n : ℕ) (r : ReadsHead text end n) → get_or text end 0 ≡ 13 → r.more ≡ []
at_return text end n r cr = cases r.more refl
  where
    cases : (more : List ℕ) → r.more ≡ more → r.more ≡ []
    cases [] e = e
    cases (d ∷ more) e =
        let is : get_or text end 0 ≡ d = ap (λ t. get_or t end 0) (from_place text end n r) ∙
        item_after (36 ∷ r.done) (r.more ++ crlf (r.word ++ crlf r.rest)) end d (more ++ crlf (r.word ++ crlf r.rest)) r.place
        (ap (λ l. l ++ crlf (r.word ++ crlf r.rest)) e) in
        let low = (subst (AllByRecursion IsDigit) e r.digits).0.0 in
        absurd (omega (arith, is, cr, low))

-- the place is in the text
pub place_within : (text : List ℕ) (end n : ℕ) (r : ReadsHead text end n) → end + length r.more + length r.word + length r.rest + 4 ≡ length text
place_within text end n r =
    let whole = ap length (from_place text end n r) in
    let first = length-append (36 ∷ r.done) (r.more ++ crlf (r.word ++ crlf r.rest)) in
    let second = length-append r.more (crlf (r.word ++ crlf r.rest)) in
    let third = length-append r.word (crlf r.rest) in
    let place = r.place in
    omega (arith, whole, first, second, third, place)

-- the next byte is a digit, or CR
pub next_digit : (text : List ℕ) (end n : ℕ) (r : ReadsHead text end n) → (get_or text end 0 ≡ 13 → ⊥) →
    (48 ≤ get_or text end 0) × (n * 10 + (get_or text end 0 - 48) ≤ 1073741824) × ReadsHead text (end + 1) (n * 10 + (get_or text end 0 - 48))
next_digit text end n r other = cases r.more refl
  where
    cases : (more : List ℕ) → r.more ≡ more →
        (48 ≤ get_or text end 0) × (n * 10 + (get_or text end 0 - 48) ≤ 1073741824) × ReadsHead text (end + 1) (n * 10 + (get_or text end 0 - 48))
    cases [] e = absurd (other (ap (λ t. get_or t end 0) (from_place text end n r) ∙
        item_after (36 ∷ r.done) (r.more ++ crlf (r.word ++ crlf r.rest)) end 13 (10 ∷ (r.word ++ crlf r.rest)) r.place
        (ap (λ l. l ++ crlf (r.word ++ crlf r.rest)) e)))
    cases (d ∷ more) e =
        let is : get_or text end 0 ≡ d = ap (λ t. get_or t end 0) (from_place text end n r) ∙
        item_after (36 ∷ r.done) (r.more ++ crlf (r.word ++ crlf r.rest)) end d (more ++ crlf (r.word ++ crlf r.rest)) r.place
        (ap (λ l. l ++ crlf (r.word ++ crlf r.rest)) e) in
        let all = subst (AllByRecursion IsDigit) e r.digits in
        let split : r.begins.digits ≡ (r.done ++ d ∷ []) ++ more =
        r.split ∙ ap (λ l. r.done ++ l) e ∙ sym (append_assoc r.done (d ∷ []) more) in
        let counted : number (r.done ++ d ∷ []) ≡ n * 10 + (d - 48) = number-digit r.done d ∙ ap (λ m. m * 10 + (d - 48)) r.counted in
        let whole : number ((r.done ++ d ∷ []) ++ more) ≡ length r.word = ap number (sym split) ∙ r.begins.counted.1 in
        let least = number-more (r.done ++ d ∷ []) more in
        let short = r.begins.short in
        let low = all.0.0 in
        let place = r.place in
        let size = length-append r.done (d ∷ []) in (
          omega (arith, is, low),
          omega (arith, is, counted, whole, least, short),
          subst (λ b. ReadsHead text (end + 1) (n * 10 + (b - 48))) (sym is)
              (record {
                word = r.word;
                rest = r.rest;
                done = r.done ++ d ∷ [];
                more = more;
                begins = r.begins;
                split = split;
                digits = all.1;
                counted = counted;
                place = omega (arith, place, size);
              }),
        )

-- nothing is read yet
pub head_begins : (text word rest : List ℕ) → BeginsWithWord 1073741824 text word rest → ReadsHead text 1 0
head_begins text word rest b = record {
  word = word;
  rest = rest;
  done = [];
  more = b.digits;
  begins = b;
  split = refl;
  digits = b.counted.0.1;
  counted = refl;
  place = refl;
}

-- the number at the end of the head is the length of the word
pub head_ends : (text : List ℕ) (end n : ℕ) (r : ReadsHead text end n) → get_or text end 0 ≡ 13 → (n ≡ length r.word) ×
    (drop (end + 2) text ≡ r.word ++ crlf r.rest) × (end + 2 + n + 2 ≤ length text)
head_ends text end n r cr =
    let none = at_return text end n r cr in
    let split : r.begins.digits ≡ r.done = r.split ∙ ap (λ l. r.done ++ l) none ∙ append-nil r.done in
    let same : n ≡ length r.word = sym r.counted ∙ ap number (sym split) ∙ r.begins.counted.1 in
    let whole : text ≡ (36 ∷ r.done) ++ crlf (r.word ++ crlf r.rest) =
    from_place text end n r ∙ ap (λ l. (36 ∷ r.done) ++ (l ++ crlf (r.word ++ crlf r.rest))) none in
    let size = place_within text end n r in
    let nothing = ap length none in (
      same,
      ap (λ k. drop (k + 2) text) r.place ∙ ap (drop (length (36 ∷ r.done) + 2)) whole ∙
          drop-append-add (36 ∷ r.done) (crlf (r.word ++ crlf r.rest)) 2,
      omega (arith, size, nothing, same),
    )

-- the bytes of the word after the head are its content
pub word_read : (text : List ℕ) (end n : ℕ) (r : ReadsHead text end n) → get_or text end 0 ≡ 13 → (content after rest : List ℕ) →
    content ≡ take n (drop (end + 2) text) → after ≡ drop n (drop (end + 2) text) → rest ≡ drop 2 after → BeginsWithWord 1073741824 text content rest
word_read text end n r cr content after rest is back last =
    let (same, body, fits) = head_ends text end n r cr in
    let content_is : content ≡ r.word = is ∙ ap (λ k. take k (drop (end + 2) text)) same ∙ ap (take (length r.word)) body ∙ take-append_seam r.word (crlf r.rest) in
    let after_is : after ≡ crlf r.rest = back ∙ ap (λ k. drop k (drop (end + 2) text)) same ∙ ap (drop (length r.word)) body ∙ drop-append_seam r.word (crlf r.rest) in
    let rest_is : rest ≡ r.rest = last ∙ ap (drop 2) after_is in
    subst (λ w. BeginsWithWord 1073741824 text w rest) (sym content_is) (subst (BeginsWithWord 1073741824 text r.word) (sym rest_is) r.begins)
