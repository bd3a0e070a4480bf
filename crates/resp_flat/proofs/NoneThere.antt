-- Numbers and lines that are not there.
use Rattle.std.proofs.Common.{◌≡◌, ℕ, zero, suc, Option, None, Some, IfNone, take, drop, get_or, ◌+◌, ◌*◌, ◌<◌, ◌≤◌, List, [], ◌∷◌, ◌++◌, length, refl, sym, ap, subst, ◌∙◌, arith, append_assoc}
use Rattle.std.specs.List.{AllByRecursion}
use Rattle.std.proofs.lemmas.List.{drop-drop}
use Rattle.resp_value.specs.Bytes.{IsLine, crlf}
use Rattle.resp_value.specs.Numbers.{IsDigit, number}
use Rattle.resp_value.proofs.DigitLemmas.{number-digit, number-more}
use Rattle.resp_value.proofs.Splitting.{no_newline_in_line, return_split}
use Rattle.resp_flat.specs.Plain.{BeginsWithLine, BeginsWithNumber}
use Rattle.resp_flat.proofs.Digits.{HasDigits}

-- a fact about `None`
pub none_if : {T : Type 0} (r : Option T) (P : Type 0) → P → IfNone r P
none_if None P p = p
none_if (Some x) P p = tt

-- a fact about `None` that follows from another one
pub none_by : {T : Type 0} (r : Option T) (P Q : Type 0) → (P → Q) → IfNone r P → IfNone r Q
none_by None P Q f p = f p
none_by (Some x) P Q f p = tt

-- two facts about `None`
pub none_both : {T : Type 0} (r : Option T) (P Q : Type 0) → IfNone r P → IfNone r Q → IfNone r (P × Q)
none_both None P Q p q = (p, q)
none_both (Some x) P Q p q = tt

-- the first byte from a place on
pub first_of_rest : (text : List ℕ) (n : ℕ) → get_or (drop n text) 0 0 ≡ get_or text n 0
first_of_rest text zero = refl
first_of_rest [] (suc n) = refl
first_of_rest (b ∷ bs) (suc n) = first_of_rest bs n

-- there is no byte after the last
pub past_end : (text : List ℕ) (n : ℕ) → length text ≤ n → get_or text n 0 ≡ 0
past_end [] n e = refl
past_end (b ∷ bs) zero e = absurd (omega (arith, e))
past_end (b ∷ bs) (suc n) e = past_end bs n (omega (arith, e))

-- the bytes after a part
pub after_part : (part : List ℕ) (text rest : List ℕ) → text ≡ part ++ rest → drop (length part) text ≡ rest
after_part part text rest e = ap (drop (length part)) e ∙ drop_part part rest
  where
    drop_part : (a b : List ℕ) → drop (length a) (a ++ b) ≡ b
    drop_part [] b = refl
    drop_part (x ∷ a) b = drop_part a b

-- the bytes after a part that begins at a place
pub rest_after : (part : List ℕ) (at : ℕ) (text rest : List ℕ) → drop at text ≡ part ++ rest → drop (at + length part) text ≡ rest
rest_after part at text rest e = sym (drop-drop (length part) at text) ∙ after_part part (drop at text) rest e

-- two runs of digits of one text, after which no digit comes
pub same_digits : (a b x y : List ℕ) → AllByRecursion IsDigit a → AllByRecursion IsDigit b → (48 ≤ get_or x 0 0 → get_or x 0 0 ≤ 57 → ⊥) →
    a ++ x ≡ b ++ crlf y → (a ≡ b) × (x ≡ crlf y)
same_digits [] [] x y p q none e = (refl, e)
same_digits [] (d ∷ b) x y p q none e =
    let h : get_or x 0 0 ≡ d = ap (λ z. get_or z 0 0) e in
    let (low, high) = q.0 in
    absurd (none (omega (arith, h, low)) (omega (arith, h, high)))
same_digits (c ∷ a) [] x y p q none e = let h : c ≡ 13 = cc in let low = p.0.0 in absurd (omega (arith, h, low))
same_digits (c ∷ a) (d ∷ b) x y p q none e =
    let t : a ++ x ≡ b ++ crlf y = cc in
    let r = same_digits a b x y p.1 q.1 none t in
    let h : a ≡ b = r.0 in
    (cc, r.1)

-- a run of digits that goes on after another one
goes_on : (a b x y : List ℕ) → AllByRecursion IsDigit a → 48 ≤ get_or x 0 0 → a ++ x ≡ b ++ crlf y → (d : ℕ) × (more : List ℕ) × (b ≡ a ++ d ∷ more)
goes_on [] [] x y p low e = let h : get_or x 0 0 ≡ 13 = ap (λ z. get_or z 0 0) e in absurd (omega (arith, h, low))
goes_on [] (d ∷ b) x y p low e = (d, b, refl)
goes_on (c ∷ a) [] x y p low e = let h : c ≡ 13 = cc in let least = p.0.0 in absurd (omega (arith, h, least))
goes_on (c ∷ a) (d ∷ b) x y p low e =
    let t : a ++ x ≡ b ++ crlf y = cc in
    let r = goes_on a b x y p.1 low t in
    let h : b ≡ a ++ r.0 ∷ r.1 = r.2 in
    (r.0, r.1, cc)

-- a number with more digits is ten times as large
pub ten_times : (text : List ℕ) (many n : ℕ) (rest : List ℕ) → HasDigits text many n rest → 48 ≤ get_or rest 0 0 → (m : ℕ) (after : List ℕ) →
    BeginsWithNumber text m after → n * 10 ≤ m
ten_times text many n rest h low m after b =
    let r = goes_on h.digits b.digits rest after h.are low (sym h.whole ∙ b.whole) in
    let more = number-more (h.digits ++ r.0 ∷ []) r.1 in
    let digit = number-digit h.digits r.0 in
    let same : number b.digits ≡ number ((h.digits ++ r.0 ∷ []) ++ r.1) = ap number (r.2 ∙ sym (append_assoc h.digits (r.0 ∷ []) r.1)) in
    let left = h.counted in
    let right = b.counted.1 in
    omega (arith, more, digit, same, left, right)

-- no number is there
pub no_number : (text : List ℕ) (many n : ℕ) (rest : List ℕ) → HasDigits text many n rest → (48 ≤ get_or rest 0 0 → get_or rest 0 0 ≤ 57 → ⊥) → (most : ℕ) →
    ((after : List ℕ) → n ≤ most → 0 < many → rest ≡ crlf after → ⊥) → (m : ℕ) (after : List ℕ) → m ≤ most → BeginsWithNumber text m after → ⊥
no_number text many n rest h ends most bad m after few b =
    let s = same_digits h.digits b.digits rest after h.are b.counted.0.1 ends (sym h.whole ∙ b.whole) in
    let left = h.counted in
    let right = b.counted.1 in
    let same = ap number s.0 in
    let long = ap length s.0 in
    let size = h.size in
    let some = b.counted.0.0 in
    bad after (omega (arith, left, right, same, few)) (omega (arith, long, size, some)) s.1

-- two numbers at one place are one
pub same_number : (text : List ℕ) (n m : ℕ) (rest after : List ℕ) → BeginsWithNumber text n rest → BeginsWithNumber text m after → (n ≡ m) × (rest ≡ after)
same_number text n m rest after b d =
    let s = same_digits b.digits d.digits (crlf rest) after b.counted.0.1 d.counted.0.1 (λ low high. absurd (omega (arith, low))) (sym b.whole ∙ d.whole) in
    let t : crlf rest ≡ crlf after = s.1 in
    (sym b.counted.1 ∙ ap number s.0 ∙ d.counted.1, cc)

-- no line is there, if its first CR is no CR LF
pub no_line_at_return : (text : List ℕ) (many : ℕ) (rest more : List ℕ) → BeginsWithLine text many rest → rest ≡ 13 ∷ more →
    ((after : List ℕ) → rest ≡ crlf after → ⊥) → (size : ℕ) (after : List ℕ) → BeginsWithLine text size (crlf after) → ⊥
no_line_at_return text many rest more b first other size after d =
    let s = return_split b.line d.line more (10 ∷ after) b.is_line d.is_line (ap (λ z. b.line ++ z) (sym first) ∙ sym b.whole ∙ d.whole) in
    other after (first ∙ ap (λ z. 13 ∷ z) s.1)

-- no line is there, if its first LF comes after no CR
pub no_line_at_newline : (text : List ℕ) (many : ℕ) (rest more : List ℕ) → BeginsWithLine text many rest → rest ≡ 10 ∷ more →
    (size : ℕ) (after : List ℕ) → BeginsWithLine text size (crlf after) → ⊥
no_line_at_newline text many rest more b first size after d =
    no_newline_in_line d.line b.line after more d.is_line b.is_line (sym d.whole ∙ b.whole ∙ ap (λ z. b.line ++ z) first)

-- the bytes of a line
line_byte_at : (s x : List ℕ) (j : ℕ) → IsLine s → j < length s → (get_or (s ++ x) j 0 ≡ 13 → ⊥) × (get_or (s ++ x) j 0 ≡ 10 → ⊥)
line_byte_at [] x j p less = absurd (omega (arith, less))
line_byte_at (c ∷ s) x zero p less = p.0
line_byte_at (c ∷ s) x (suc j) p less = line_byte_at s x j p.1 (omega (arith, less))

-- the byte after a line
byte_after : (s x : List ℕ) (b : ℕ) → (get_or (s ++ b ∷ x) (length s) 0 ≡ b) × (length s < length (s ++ b ∷ x))
byte_after [] x b = (refl, omega arith)
byte_after (c ∷ s) x b = let r = byte_after s x b in (r.0, let l = r.1 in omega (arith, l))

-- a line that CR LF follows has a CR at its end, and neither CR nor LF before it
pub line_marks : (text : List ℕ) (size : ℕ) (after : List ℕ) → BeginsWithLine text size (crlf after) →
    (size < length text) × (get_or text size 0 ≡ 13) × ((j : ℕ) → j < size → (get_or text j 0 ≡ 13 → ⊥) × (get_or text j 0 ≡ 10 → ⊥))
line_marks text size after b =
    let r = byte_after b.line (10 ∷ after) 13 in
    let sized = b.sized in
    let at : get_or text (length b.line) 0 ≡ 13 = ap (λ z. get_or z (length b.line) 0) b.whole ∙ r.0 in
    let long = ap length b.whole in
    let less = r.1 in (
      omega (arith, long, less, sized),
      subst (λ k. get_or text k 0 ≡ 13) sized at,
      λ j few. subst (λ z. (get_or z j 0 ≡ 13 → ⊥) × (get_or z j 0 ≡ 10 → ⊥)) (sym b.whole)
          (line_byte_at b.line (crlf after) j b.is_line (omega (arith, few, sized))),
    )

-- the bytes after a line
pub after_line : (text : List ℕ) (size : ℕ) (rest : List ℕ) → BeginsWithLine text size rest → drop size text ≡ rest
after_line text size rest b = ap (λ k. drop k text) (sym b.sized) ∙ after_part b.line text rest b.whole

-- two numbers of which neither is less
pub neither_less : (a b : ℕ) → (a < b → ⊥) → (b < a → ⊥) → a ≡ b
neither_less zero zero p q = refl
neither_less zero (suc b) p q = absurd (p (omega arith))
neither_less (suc a) zero p q = absurd (q (omega arith))
neither_less (suc a) (suc b) p q = ap suc (neither_less a b (λ l. p (omega (arith, l))) (λ l. q (omega (arith, l))))

-- a byte of the first ones
pub byte_of_first : (n : ℕ) (text : List ℕ) (j : ℕ) → j < n → get_or (take n text) j 0 ≡ get_or text j 0
byte_of_first zero text j few = absurd (omega (arith, few))
byte_of_first (suc n) [] j few = refl
byte_of_first (suc n) (b ∷ bs) zero few = refl
byte_of_first (suc n) (b ∷ bs) (suc j) few = byte_of_first n bs j (omega (arith, few))

-- a line ends at the first CR
pub ends_at_return : (text : List ℕ) (run : ℕ) → get_or text run 0 ≡ 13 → ((j : ℕ) → j < run → get_or text j 0 ≡ 13 → ⊥) →
    (size : ℕ) (after : List ℕ) → BeginsWithLine text size (crlf after) → size ≡ run
ends_at_return text run is before size after b =
    let (within, at, marks) = line_marks text size after b in
    neither_less size run (λ less. before size less at) (λ less. (marks run less).0 is)
