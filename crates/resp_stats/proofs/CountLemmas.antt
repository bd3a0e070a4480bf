-- How many times of a list are in a range.
use Rattle.std.proofs.Common.{◌≡◌, ℕ, ◌+◌, ◌<◌, ◌≤◌, inl, inr, Bool, true, false, nat_lt, nat_le, cond, List, [], ◌∷◌, ◌++◌, All, length, replicate, refl, arith, zero, suc}
use Rattle.std.specs.List.{count_by}
use Rattle.std.proofs.lemmas.List.Sums.{sum_by-append, sum_by-cons}
use Rattle.std.proofs.lemmas.List.Elements.{All-head, All-tail}
use Rattle.std.proofs.lemmas.Bool.{cases_lt}
use Rattle.std.proofs.lemmas.Bool.Decides.{nat_tests}
use Rattle.resp_stats.specs.Times.{count_at_most, count_below, is_between}

-- 1 if a test holds, and 0 otherwise
abbrev pub one_if : Bool → ℕ
one_if b = cond b 1 0

pub count-append : (p : ℕ → Bool) (xs ys : List ℕ) → count_by p (xs ++ ys) ≡ count_by p xs + count_by p ys
count-append p xs ys = sum_by-append (λ x. cond (p x) 1 0) xs ys

pub count-cons : (p : ℕ → Bool) (x : ℕ) (xs : List ℕ) → count_by p (x ∷ xs) ≡ one_if (p x) + count_by p xs
count-cons p x xs = sum_by-cons (λ y. cond (p y) 1 0) x xs

pub count-replicate_yes : (p : ℕ → Bool) (n x : ℕ) → p x ≡ true → count_by p (replicate n x) ≡ n
count-replicate_yes p zero x is = refl
count-replicate_yes p (suc n) x is =
    let first = count-cons p x (replicate n x) in
    let one : one_if (p x) ≡ 1 = rw is refl in
    omega (arith, first, one, count-replicate_yes p n x is)

pub count-replicate_no : (p : ℕ → Bool) (n x : ℕ) → p x ≡ false → count_by p (replicate n x) ≡ 0
count-replicate_no p zero x is = refl
count-replicate_no p (suc n) x is =
    let first = count-cons p x (replicate n x) in
    let nothing : one_if (p x) ≡ 0 = rw is refl in
    omega (arith, first, nothing, count-replicate_no p n x is)

split_one : (a b x : ℕ) → a ≤ b → one_if (nat_lt x b) ≡ one_if (nat_lt x a) + one_if (is_between a b x)
split_one a b x in_order = elim (cases_lt x a) [
  | inl below ↦ grind (arith, nat_tests, below)
  | inr from ↦ elim (cases_lt x b) [
    | inl before ↦ grind (arith, nat_tests, from, before)
    | inr past ↦ grind (arith, nat_tests, from, past)
  ]
]

pub count_split : (a b : ℕ) → a ≤ b → (xs : List ℕ) → count_below b xs ≡ count_below a xs + count_by (is_between a b) xs
count_split a b in_order [] = refl
count_split a b in_order (x ∷ xs) =
    omega (
      arith,
      count-cons (λ t. nat_lt t b) x xs,
      count-cons (λ t. nat_lt t a) x xs,
      count-cons (is_between a b) x xs,
      split_one a b x in_order,
      count_split a b in_order xs,
    )

pub count_mono : (a b : ℕ) → a ≤ b → (xs : List ℕ) → count_below a xs ≤ count_below b xs
count_mono a b in_order xs = omega (arith, count_split a b in_order xs)

next_one : (a b x : ℕ) → b ≡ a + 1 → one_if (nat_le x a) ≡ one_if (nat_lt x b)
next_one a b x next = elim (cases_lt x b) [
  | inl below ↦ grind (arith, nat_tests, below, next)
  | inr past ↦ grind (arith, nat_tests, past, next)
]

pub count_next : (a b : ℕ) → b ≡ a + 1 → (xs : List ℕ) → count_at_most a xs ≡ count_below b xs
count_next a b next [] = refl
count_next a b next (x ∷ xs) =
    omega (arith, count-cons (λ t. nat_le t a) x xs, count-cons (λ t. nat_lt t b) x xs, next_one a b x next, count_next a b next xs)

pub count_all : (b : ℕ) (xs : List ℕ) → All (λ t. t < b) xs → count_below b xs ≡ length xs
count_all b [] each = refl
count_all b (x ∷ xs) each =
    let first : x < b = All-head (λ t. t < b) x xs each in
    let rest = count_all b xs (All-tail (λ t. t < b) x xs each) in
    let one : one_if (nat_lt x b) ≡ 1 = grind (arith, nat_tests, first) in
    omega (arith, count-cons (λ t. nat_lt t b) x xs, one, rest)

pub count_below_zero : (xs : List ℕ) → count_below 0 xs ≡ 0
count_below_zero [] = refl
count_below_zero (x ∷ xs) = omega (arith, count-cons (λ t. nat_lt t 0) x xs, nothing, count_below_zero xs)
  where
    nothing : one_if (nat_lt x 0) ≡ 0
    nothing = grind (arith, nat_tests)
