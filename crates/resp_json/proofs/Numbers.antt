-- Integers can be read back, if no digit follows them.
use Rattle.std.proofs.Common.{◌≡◌, ℕ, suc, ◌<◌, ◌≤◌, ◌^◌, ℤ, pos, negsuc, neg_ℤ, ◌≤ℤ◌, ◌<ℤ◌, List, [], ◌∷◌, ◌++◌, drop, get_or, length, decimal, refl, sym, ap, subst, arith}
use Rattle.std.specs.Fmt.{signed_decimal}
use Rattle.std.specs.List.{AllByRecursion}
use Rattle.std.specs.Str.Parse.{AllDigits}
use Rattle.std.proofs.lemmas.Fmt.{decimal_injective, decimal_is_IsNumeral}
use Rattle.std.proofs.lemmas.Str.Parse.{digit_from_value}
use Rattle.resp_value.specs.Numbers.{IsDigit}

-- no digit comes first
abbrev pub IsEnd : List ℕ → Type 0
IsEnd [] = Unit {0}
IsEnd (b ∷ rest) = 48 ≤ b → b ≤ 57 → ⊥

-- two texts of digits
pub digits_apart : (digits digits' rest rest' : List ℕ) → AllByRecursion IsDigit digits → AllByRecursion IsDigit digits' → IsEnd rest → IsEnd rest' →
    digits ++ rest ≡ digits' ++ rest' → (digits ≡ digits') × (rest ≡ rest')
digits_apart [] [] rest rest' p q f g e = (refl, e)
digits_apart [] (d ∷ ds) rest rest' p q f g e = absurd (subst IsEnd e f q.0.0 q.0.1)
digits_apart (c ∷ cs) [] rest rest' p q f g e = absurd (subst IsEnd (sym e) g p.0.0 p.0.1)
digits_apart (c ∷ cs) (d ∷ ds) rest rest' p q f g e =
    let next : cs ++ rest ≡ ds ++ rest' = cc in
    let first : c ≡ d = cc in
    let others = digits_apart cs ds rest rest' p.1 q.1 f g next in
    ((λ i. first i ∷ others.0 i), others.1)

digits_from_all : (ds : List ℕ) → AllDigits 10 ds → AllByRecursion IsDigit ds
digits_from_all [] p = tt
digits_from_all (c ∷ cs) p = (digit_from_value c p.0, digits_from_all cs p.1)

-- the digits of a number
decimal_digits : (n : ℕ) → n < 2 ^ 64 → AllByRecursion IsDigit (decimal n)
decimal_digits n h = digits_from_all (decimal n) (decimal_is_IsNumeral n h).0.1

-- digits do not begin with a minus
digits_not_minus : (digits rest rest' : List ℕ) → 0 < length digits → AllByRecursion IsDigit digits → digits ++ rest ≡ 45 ∷ rest' → ⊥
digits_not_minus [] rest rest' full p e = omega arith
digits_not_minus (d ∷ ds) rest rest' full p e = let first : d ≡ 45 = cc in omega (arith, p.0.0)

pub minus_not_digits : (digits rest rest' : List ℕ) → 0 < length digits → AllByRecursion IsDigit digits → 45 ∷ rest' ≡ digits ++ rest → ⊥
minus_not_digits digits rest rest' full p e = digits_not_minus digits rest rest' full p (sym e)

-- an integer that the program can hold
abbrev pub IsHeld : ℤ → Type 0
IsHeld i = (neg_ℤ (pos (2 ^ 63)) ≤ℤ i) × (i <ℤ pos (2 ^ 63))

-- such an integer without its sign
small_above : (n : ℕ) → IsHeld (pos n) → n < 2 ^ 64
small_above n p = let high = p.1 in grind (arith, high)

small_below : (n : ℕ) → IsHeld (negsuc n) → suc n < 2 ^ 64
small_below n p = let low = p.0 in grind (arith, low)

-- two integers
pub integers_apart : (i j : ℤ) (rest rest' : List ℕ) → IsHeld i → IsHeld j → IsEnd rest → IsEnd rest' → signed_decimal i ++ rest ≡ signed_decimal j ++ rest' →
    (i ≡ j) × (rest ≡ rest')
integers_apart (pos m) (pos n) rest rest' p q f g e =
    let h = digits_apart (decimal m) (decimal n) rest rest' (decimal_digits m (small_above m p)) (decimal_digits n (small_above n q)) f g e in
    (ap pos (decimal_injective m n (small_above m p) (small_above n q) h.0), h.1)
integers_apart (pos m) (negsuc n) rest rest' p q f g e =
    absurd (digits_not_minus (decimal m) rest _ (decimal_is_IsNumeral m (small_above m p)).0.0 (decimal_digits m (small_above m p)) e)
integers_apart (negsuc m) (pos n) rest rest' p q f g e =
    absurd (digits_not_minus (decimal n) rest' _ (decimal_is_IsNumeral n (small_above n q)).0.0 (decimal_digits n (small_above n q)) (sym e))
integers_apart (negsuc m) (negsuc n) rest rest' p q f g e =
    let h = digits_apart (decimal (suc m)) (decimal (suc n)) rest rest' (decimal_digits (suc m) (small_below m p)) (decimal_digits (suc n) (small_below n q)) f g (ap (drop 1) e) in
    (ap negsuc (omega (arith, decimal_injective (suc m) (suc n) (small_below m p) (small_below n q) h.0)), h.1)

-- the first byte of an integer is a digit or a minus
pub integer_begins : (i : ℤ) (rest : List ℕ) → IsHeld i → (45 ≤ get_or (signed_decimal i ++ rest) 0 0) × (get_or (signed_decimal i ++ rest) 0 0 ≤ 57)
integer_begins (pos n) rest p = begins (decimal n) (decimal_is_IsNumeral n (small_above n p)).0.0 (decimal_digits n (small_above n p))
  where
    begins : (ds : List ℕ) → 0 < length ds → AllByRecursion IsDigit ds → (45 ≤ get_or (ds ++ rest) 0 0) × (get_or (ds ++ rest) 0 0 ≤ 57)
    begins [] full q = absurd (omega arith)
    begins (d ∷ ds) full q = (omega (arith, q.0.0), q.0.1)
integer_begins (negsuc n) rest p = (omega arith, omega arith)
