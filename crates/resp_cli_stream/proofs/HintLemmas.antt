-- Where a number or the content of a string begins.
use Rattle.std.proofs.Common.{◌≡◌, ◌≢◌, ◌⊎◌, inl, inr, ◌≤◌, ◌+◌, ◌-◌, ◌∷◌, ◌++◌, ◌∙◌, ◌||◌, ◌==◌, ℕ, Bor, Bool, true, false, true≢false, codes, List, [], length, drop, take, decimal, Option, Some, None, MatchOption, refl, sym, ap, subst, arith, append_assoc, length-append}
use Rattle.std.specs.List.{AllByRecursion, Contains}
use Rattle.std.proofs.lemmas.List.{append_cancel_right}
use Rattle.std.proofs.lemmas.List.Elements.{Contains-push_cases}
use Rattle.std.proofs.lemmas.Bool.{eqb-true}
use Rattle.std.proofs.Math.Seq.{take-append_seam}
use Rattle.resp_cli_stream.specs.Hints.{Ends, EndsWithAny, EndsWithContent, EndsWithLength, Shows, is_one_of, length_marks}
use Rattle.resp_cli_stream.specs.declared.hint.Clue.{Clue}

-- all bytes are among these digits
abbrev pub AreDigits : List ℕ → List ℕ → Type 0
AreDigits digits bytes = AllByRecursion (λ b. is_one_of digits b ≡ true) bytes

digit_in : (digits front last : List ℕ) (b : ℕ) → AreDigits digits (front ++ b ∷ last) → is_one_of digits b ≡ true
digit_in digits [] last b are = are.0
digit_in digits (c ∷ front) last b are = digit_in digits front last b are.1

-- the last bytes that are no digits are the same
same_mark : (digits f1 f2 d1 d2 : List ℕ) (a b : ℕ) → f1 ++ a ∷ d1 ≡ f2 ++ b ∷ d2 → is_one_of digits a ≡ false → is_one_of digits b ≡ false →
    AreDigits digits d1 → AreDigits digits d2 → a ≡ b
same_mark digits [] [] d1 d2 a b e na nb i j = cc
same_mark digits [] (c ∷ f2) d1 d2 a b e na nb i j =
    let is = digit_in digits f2 d2 b (subst (AreDigits digits) (ap (drop 1) e) i) in absurd (true≢false (sym is ∙ nb))
same_mark digits (c ∷ f1) [] d1 d2 a b e na nb i j =
    let is = digit_in digits f1 d1 a (subst (AreDigits digits) (sym (ap (drop 1) e)) j) in absurd (true≢false (sym is ∙ na))
same_mark digits (c ∷ f1) (x ∷ f2) d1 d2 a b e na nb i j = same_mark digits f1 f2 d1 d2 a b (cc) na nb i j

-- one of these bytes is no digit
no_digit : (digits marks : List ℕ) (b : ℕ) → AllByRecursion (λ m. is_one_of digits m ≡ false) marks → is_one_of marks b ≡ true →
    is_one_of digits b ≡ false
no_digit digits [] b none is = absurd (cc)
no_digit digits (m ∷ marks) b none is = elim (m == b) as (λ t. (m == b) ≡ t → is_one_of digits b ≡ false) [
  | true ↦ λ e. subst (λ z. is_one_of digits z ≡ false) (eqb-true m b e) none.0
  | false ↦ λ e. no_digit digits marks b none.1 (sym (ap (λ t. t || is_one_of marks b) e) ∙ is)
] refl

module _ {digits marks before : List ℕ} (none : AllByRecursion (λ m. is_one_of digits m ≡ false) marks) (w : EndsWithAny digits marks before) where
  split : before ≡ w.has_mark.front ++ w.has_mark.mark ∷ w.last
  split = w.whole ∙ ap (λ z. z ++ w.last) w.has_mark.whole ∙ append_assoc w.has_mark.front (w.has_mark.mark ∷ []) w.last

  not_digit : is_one_of digits w.has_mark.mark ≡ false
  not_digit = no_digit digits marks w.has_mark.mark none w.has_mark.is_mark

  -- the last byte that is no digit is a mark
  pub is_mark : (front last : List ℕ) (b : ℕ) → before ≡ (front ++ b ∷ []) ++ last → AreDigits digits last → is_one_of digits b ≡ false →
      is_one_of marks b ≡ true
  is_mark front last b is are not =
      subst (λ z. is_one_of marks z ≡ true)
      (same_mark digits w.has_mark.front front w.last last w.has_mark.mark b (sym split ∙ is ∙ append_assoc front (b ∷ []) last) not_digit not w.are_digits are)
      w.has_mark.is_mark

  pub only_digits : AreDigits digits before → ⊥
  only_digits are =
      let is = digit_in digits w.has_mark.front w.last w.has_mark.mark (subst (AreDigits digits) split are) in
      true≢false (sym is ∙ not_digit)

-- the content with which the bytes end begins where the head of its string ends
pub at_its_place : (before : List ℕ) (size : ℕ) → EndsWithContent size before →
    (size ≤ length before) × EndsWithLength size (take (length before - size) before)
at_its_place before size w =
    let sizes : length before ≡ length w.head + length w.content = ap (λ z. length z) w.whole ∙ length-append w.head w.content in
    let at : length before - size ≡ length w.head = omega (arith, sizes, w.has_size) in
    let is : take (length before - size) before ≡ w.head =
    ap (λ n. take n before) at ∙ ap (λ z. take (length w.head) z) w.whole ∙ take-append_seam w.head w.content in
    (omega (arith, sizes, w.has_size), subst (EndsWithLength size) (sym is) w.has_length)

-- what a suffix that was looked for says
pub not_stripped : (s p : List ℕ) (r : Option (Bor (List ℕ))) → MatchOption r ((front : List ℕ) → s ≢ front ++ p) (λ x. s ≡ x.now ++ p) →
    r ≡ None → Ends p s → ⊥
not_stripped s p None m e w = m w.0 w.1
not_stripped s p (Some x) m e w = absurd (cc)

pub stripped : (s p : List ℕ) (r : Option (Bor (List ℕ))) (x : Bor (List ℕ)) →
    MatchOption r ((front : List ℕ) → s ≢ front ++ p) (λ x. s ≡ x.now ++ p) → r ≡ Some x → s ≡ x.now ++ p
stripped s p r x m e = subst (λ o. MatchOption o ((front : List ℕ) → s ≢ front ++ p) (λ x. s ≡ x.now ++ p)) e m

module _ (head line front digits : List ℕ) (size : ℕ) (is_line : head ≡ line ++ 13 ∷ 10 ∷ []) (are : digits ≡ decimal size) where
  pub length_split : line ≡ front ++ digits → head ≡ front ++ (decimal size ++ 13 ∷ 10 ∷ [])
  length_split is =
      is_line ∙ ap (λ z. z ++ 13 ∷ 10 ∷ []) (is ∙ ap (λ z. front ++ z) are) ∙ append_assoc front (decimal size) (13 ∷ 10 ∷ [])

  pub line_of_length : (w : EndsWithLength size head) → line ≡ w.front ++ digits
  line_of_length w =
      append_cancel_right line (w.front ++ digits) (13 ∷ 10 ∷ [])
      (sym is_line ∙ w.whole ∙ sym (append_assoc w.front (decimal size) (13 ∷ 10 ∷ [])) ∙ ap (λ z. (w.front ++ z) ++ 13 ∷ 10 ∷ []) (sym are))

  pub mark_of_length : line ≡ front ++ digits → EndsWithLength size head → EndsWithAny (codes "0") length_marks front
  mark_of_length is w = subst (EndsWithAny (codes "0") length_marks) (append_cancel_right w.front front digits (sym (line_of_length w) ∙ is)) w.has_mark

pub length_ends : (head : List ℕ) (size : ℕ) → EndsWithLength size head → Ends (13 ∷ 10 ∷ []) head
length_ends head size w = (w.front ++ decimal size, w.whole ∙ sym (append_assoc w.front (decimal size) (13 ∷ 10 ∷ [])))

-- one more clue is not shown
pub none_more : (passed : List Clue) (c : Clue) (before from : List ℕ) → ((other : Clue) → Contains passed other → Shows other before from → ⊥) →
    (Shows c before from → ⊥) → (other : Clue) → Contains (passed ++ c ∷ []) other → Shows other before from → ⊥
none_more passed c before from none not other has shows = go (Contains-push_cases passed c other has)
  where
    go : Contains passed other ⊎ (c ≡ other) → ⊥
    go (inl old) = none other old shows
    go (inr is) = not (subst (λ z. Shows z before from) (sym is) shows)

pub shown_if : (r : Bool) (P : Type 0) → (P → r ≡ true) → r ≡ false → P → ⊥
shown_if r P is not p = let e = is p in absurd (cc)
