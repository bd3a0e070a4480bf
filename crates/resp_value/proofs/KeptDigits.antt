-- The digits that a big number keeps of a text.
use Rattle.std.proofs.Common.{not, ◌≡◌, ◌≢◌, ◌⊎◌, inl, inr, ℕ, ◌+◌, ◌-◌, ◌<◌, ◌≤◌, Bool, true, false, cond, eqb, List, [], ◌∷◌, ◌++◌, length, get_or, drop, map, refl, sym, ap, ◌∙◌, arith}
use Rattle.std.specs.List.{AllByRecursion}
use Rattle.std.proofs.lemmas.Int.Digits.{number_after_ge}
use Rattle.std.proofs.lemmas.Bool.{ne_eqb}
use Rattle.std.proofs.lemmas.Bool.Decides.{eqb_tells}
use Rattle.resp_value.specs.Numbers.{IsDigits, IsDigit, number, kept_digits, zero_if_none, significant_digits, sign_text, is_below_zero, is_minus, IsKept, KeepsDigits}
use Rattle.resp_value.specs.Signs.{sign_at, unsigned_part}

-- what a test of a byte tells
abbrev Told : ℕ → ℕ → Type 0
Told byte other = ((eqb byte other ≡ true) × (byte ≡ other)) ⊎ ((eqb byte other ≡ false) × (byte ≢ other))

-- a leading zero that isn't the last digit can go
pub kept-zero : (digits : List ℕ) → 1 < length digits → get_or digits 0 0 ≡ 48 → kept_digits digits ≡ kept_digits (drop 1 digits)
kept-zero [] longer is_zero = absurd (omega arith)
kept-zero (c ∷ cs) longer is_zero = let e : c ≡ 48 = is_zero in ap (λ b. zero_if_none (cond (eqb b 48) (significant_digits cs) (b ∷ cs))) e

-- one digit, or digits that begin with no zero, are kept as they are
pub kept-end : (digits : List ℕ) → 0 < length digits → (length digits ≤ 1) ⊎ (get_or digits 0 0 ≢ 48) → kept_digits digits ≡ digits
kept-end [] full last = absurd (omega arith)
kept-end (c ∷ []) full last = cases (eqb_tells c 48)
  where
    cases : Told c 48 → kept_digits (c ∷ []) ≡ c ∷ []
    cases (inl p) = rw p.0 (ap (λ b. b ∷ []) (sym p.1))
    cases (inr p) = rw p.0
kept-end (c ∷ d ∷ cs) full (inl last) = absurd (omega arith)
kept-end (c ∷ d ∷ cs) full (inr last) = rw (ne_eqb c 48 last)

stripped_are_digits : (digits : List ℕ) → AllByRecursion IsDigit digits → AllByRecursion IsDigit (significant_digits digits)
stripped_are_digits [] p = tt
stripped_are_digits (c ∷ cs) p = cases (stripped_are_digits cs p.1) (eqb c 48)
  where
    cases : AllByRecursion IsDigit (significant_digits cs) → (b : Bool) → AllByRecursion IsDigit (cond b (significant_digits cs) (c ∷ cs))
    cases h true = h
    cases h false = p

-- leading zeros don't change the number
pub number-stripped : (digits : List ℕ) → number (significant_digits digits) ≡ number digits
number-stripped [] = refl
number-stripped (c ∷ cs) = cases (number-stripped cs) (eqb_tells c 48)
  where
    cases : number (significant_digits cs) ≡ number cs → Told c 48 → number (cond (eqb c 48) (significant_digits cs) (c ∷ cs)) ≡ number (c ∷ cs)
    cases h (inl p) = rw p.0 (h ∙ ap (λ b. number (b ∷ cs)) (sym p.1))
    cases h (inr p) = rw p.0

-- these digits begin with one that isn't zero
BeginsAboveZero : List ℕ → Type 0
BeginsAboveZero digits = (c : ℕ) × (cs : List ℕ) × (digits ≡ c ∷ cs) × (c ≢ 48) × IsDigit c

-- what is stripped begins with no zero
stripped_first : (digits : List ℕ) → AllByRecursion IsDigit digits → (significant_digits digits ≡ []) ⊎ BeginsAboveZero (significant_digits digits)
unfolding BeginsAboveZero
stripped_first [] p = inl refl
stripped_first (c ∷ cs) p = cases (stripped_first cs p.1) (eqb_tells c 48)
  where
    cases : (significant_digits cs ≡ []) ⊎ BeginsAboveZero (significant_digits cs) → Told c 48 →
        (significant_digits (c ∷ cs) ≡ []) ⊎ BeginsAboveZero (significant_digits (c ∷ cs))
    cases h (inl q) = rw q.0 h
    cases h (inr q) = inr (c, cs, rw q.0, q.1, p.0)

-- kept digits are kept as they are, are of the same number, and only zero's begin with a zero
pub record AreKept (digits : List ℕ) : Type 0 where
  pub are_digits : IsDigits (kept_digits digits)
  pub same : kept_digits (kept_digits digits) ≡ kept_digits digits
  pub same_number : number (kept_digits digits) ≡ number digits
  pub zero : get_or (kept_digits digits) 0 0 ≡ 48 → number digits ≡ 0
  pub above_zero : get_or (kept_digits digits) 0 0 ≢ 48 → 0 < number digits

-- what is known of the digits that are kept
pub are_kept : (digits : List ℕ) → AllByRecursion IsDigit digits → AreKept digits
unfolding BeginsAboveZero
are_kept digits p = cases (stripped_first digits p) (stripped_are_digits digits p) (number-stripped digits)
  where
    cases : (significant_digits digits ≡ []) ⊎ BeginsAboveZero (significant_digits digits) → AllByRecursion IsDigit (significant_digits digits) →
        number (significant_digits digits) ≡ number digits → AreKept digits
    cases (inl e) q n =
        let z : number digits ≡ 0 = sym n ∙ ap number e in
        record {
          are_digits = rw e ((omega arith, ((omega arith, omega arith), tt)));
          same = rw e;
          same_number = rw e (sym z);
          zero = λ h. z;
          above_zero = λ h. absurd (h (rw e));
        }
    cases (inr w) q n =
        let (c, cs, e, ne, d) = w in
        let f : number (c ∷ cs) ≡ number digits = sym (ap number e) ∙ n in
        let big : 0 + (c - 48) ≤ number (c ∷ cs) = number_after_ge 10 (0 + (c - 48)) (map (λ x. x - 48) cs) (omega arith) in
        let all : AllByRecursion IsDigit (c ∷ cs) = rw e at q in
        record {
          are_digits = rw e ((omega arith, all));
          same = rw e (ap zero_if_none (ap (λ b. cond b (significant_digits cs) (c ∷ cs)) (ne_eqb c 48 ne)));
          same_number = rw e f;
          zero = λ h. absurd (ne (rw e at h));
          above_zero = λ h. omega arith;
        }

-- a text is its sign and what follows
pub sign_split : (text : List ℕ) → text ≡ sign_text (sign_at text) ++ unsigned_part text
sign_split [] = refl
sign_split (c ∷ cs) = cases (eqb_tells c 45) (eqb_tells c 43)
  where
    cases : Told c 45 → Told c 43 → c ∷ cs ≡ sign_text (sign_at (c ∷ cs)) ++ unsigned_part (c ∷ cs)
    cases (inl p) q = rw p.0 (ap (λ b. b ∷ cs) p.1)
    cases (inr p) (inl q) = rw (p.0, q.0) (ap (λ b. b ∷ cs) q.1)
    cases (inr p) (inr q) = rw (p.0, q.0)

-- kept digits with the text's sign, but none for zero, are what a big number keeps of the text
pub keeps_digits : (text digits : List ℕ) (negative : Bool) → IsDigits (unsigned_part text) → digits ≡ kept_digits (unsigned_part text) →
    (negative ≡ true → (is_minus (sign_at text) ≡ true) × (get_or digits 0 0 ≢ 48)) →
    (negative ≡ false → (is_minus (sign_at text) ≡ false) ⊎ (get_or digits 0 0 ≡ 48)) → KeepsDigits text negative digits × IsKept negative digits
keeps_digits text digits negative p e t f =
    let k = are_kept (unsigned_part text) p.1 in
    let g = sign_at text in
    let n : negative ≡ is_below_zero g (unsigned_part text) = cases k negative (eqb_tells (number (unsigned_part text)) 0) t f in (
      (g, unsigned_part text, p, sign_split text, n, e),
      rw e (k.are_digits, k.same, λ z. n ∙ ap (λ m. cond (eqb m 0) false (is_minus g)) (sym k.same_number ∙ z)),
    )
  where
    cases : AreKept (unsigned_part text) → (v : Bool) → Told (number (unsigned_part text)) 0 →
        (v ≡ true → (is_minus (sign_at text) ≡ true) × (get_or digits 0 0 ≢ 48)) → (v ≡ false → (is_minus (sign_at text) ≡ false) ⊎ (get_or digits 0 0 ≡ 48)) →
        v ≡ is_below_zero (sign_at text) (unsigned_part text)
    cases k true (inl q) t f =
        let h : get_or (kept_digits (unsigned_part text)) 0 0 ≢ 48 = rw e at (t refl).1 in
        let o : 0 < number (unsigned_part text) = k.above_zero h in absurd (omega (arith, q.1))
    cases k true (inr q) t f = rw q.0 (sym (t refl).0)
    cases k false (inl q) t f = rw q.0
    cases k false (inr q) t f = rw q.0 (under (f refl))
      where
        under : (is_minus (sign_at text) ≡ false) ⊎ (get_or digits 0 0 ≡ 48) → false ≡ is_minus (sign_at text)
        under (inl z) = sym z
        under (inr z) = absurd (q.1 (k.zero (rw e at z)))

-- digits keep a text where their sign is found by testing the first kept digit after a minus
pub keeps_digits_if_tested : (text digits : List ℕ) (negative : Bool) → IsDigits (unsigned_part text) → digits ≡ kept_digits (unsigned_part text) →
    ((is_minus (sign_at text) ≡ true) × (negative ≡ not (eqb (get_or digits 0 0) 48))) ⊎ ((is_minus (sign_at text) ≡ false) × (negative ≡ false)) →
    KeepsDigits text negative digits × IsKept negative digits
keeps_digits_if_tested text digits negative p e (inl h) = go (eqb_tells (get_or digits 0 0) 48)
  where
    go : Told (get_or digits 0 0) 48 → KeepsDigits text negative digits × IsKept negative digits
    go (inl q) = keeps_digits text digits negative p e (λ t. let n : negative ≡ false = h.1 ∙ ap not q.0 in absurd (cc)) (λ f. inr q.1)
    go (inr q) = keeps_digits text digits negative p e (λ t. (h.0, q.1)) (λ f. let n : negative ≡ true = h.1 ∙ ap not q.0 in absurd (cc))
keeps_digits_if_tested text digits negative p e (inr h) = keeps_digits text digits negative p e (λ t. let n : negative ≡ false = h.1 in
    absurd (cc)) (λ f. inl h.0)

-- digits are never fewer than those that are kept of them
kept_no_longer : (digits : List ℕ) → 0 < length digits → length (kept_digits digits) ≤ length digits
kept_no_longer [] full = absurd (omega arith)
kept_no_longer (c ∷ []) full = cases (eqb c 48)
  where
    cases : (b : Bool) → length (zero_if_none (cond b [] (c ∷ []))) ≤ 1
    cases true = omega arith
    cases false = omega arith
kept_no_longer (c ∷ d ∷ cs) full = cases (eqb c 48) (kept_no_longer (d ∷ cs) (omega arith))
  where
    cases : (b : Bool) → length (kept_digits (d ∷ cs)) ≤ length (d ∷ cs) →
        length (zero_if_none (cond b (significant_digits (d ∷ cs)) (c ∷ d ∷ cs))) ≤ length (c ∷ d ∷ cs)
    cases true h = omega arith
    cases false h = omega arith

-- digits that begin with no zero, or are a zero that isn't negative, are kept
pub kept_where_first_is_tested : (negative : Bool) (digits : List ℕ) → IsDigits digits →
    (get_or digits 0 0 ≡ 48 → (negative ≡ false) × (length digits ≤ 1)) → IsKept negative digits
kept_where_first_is_tested negative digits p t =
    let k = are_kept digits p.1 in
    cases k (eqb_tells (get_or digits 0 0) 48)
  where
    cases : AreKept digits → Told (get_or digits 0 0) 48 → IsKept negative digits
    cases k (inl q) = (p, kept-end digits p.0 (inl (t q.1).1), λ z. (t q.1).0)
    cases k (inr q) =
        let same : kept_digits digits ≡ digits = kept-end digits p.0 (inr (λ e. absurd (cc))) in
        let above : 0 < number digits = k.above_zero (λ e. let wrong : get_or digits 0 0 ≡ 48 = ap (λ z. get_or z 0 0) (sym same) ∙ e in absurd (cc)) in
        (p, same, λ z. absurd (omega (arith, above, z)))

-- kept digits that begin with a zero are this zero, and not negative
pub kept_zero_is_alone : (negative : Bool) (digits : List ℕ) → IsKept negative digits → get_or digits 0 0 ≡ 48 →
    (negative ≡ false) × (length digits ≤ 1)
kept_zero_is_alone negative digits k h =
    let a = are_kept digits k.0.1 in
    let zero : number digits ≡ 0 = a.zero (ap (λ z. get_or z 0 0) k.1 ∙ h) in
    (k.2 zero, few digits k.0.0 k.1 h)
  where
    few : (digits : List ℕ) → 0 < length digits → kept_digits digits ≡ digits → get_or digits 0 0 ≡ 48 → length digits ≤ 1
    few [] full same h = omega arith
    few (c ∷ []) full same h = omega arith
    few (c ∷ d ∷ cs) full same h = omega (
      arith,
      kept_no_longer (d ∷ cs) (omega arith),
      ap length (sym (kept-zero (c ∷ d ∷ cs) (omega arith) h)),
      ap length same,
    )
