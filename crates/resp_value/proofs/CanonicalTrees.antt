-- The canonical tree of a value is a tree of that value.
use Rattle.std.proofs.Common.{◌≡◌, ◌≢◌, ◌⊎◌, inl, inr, ℕ, ◌+◌, ◌-◌, ◌/◌, ◌<◌, Bool, true, false, cond, eqb, List, [], ◌∷◌, ◌++◌, length, map, ℤ, pos, negsuc, neg_ℤ, refl, sym, ap, ◌∙◌, arith, add-one, length-append}
use Rattle.std.specs.List.{AllByRecursion}
use Rattle.std.specs.Int.Digits.{number_from_digits, digits_of, AllBelowBase}
use Rattle.std.proofs.lemmas.Int.Digits.{number_digits_of, all_below_base_digits_of, length-digits_of_step}
use Rattle.std.proofs.lemmas.List.{length-map}
use Rattle.std.proofs.lemmas.Bool.Decides.{eqb_tells}
use Rattle.resp_value.specs.Numbers.{IsDigits, IsDigit, IsNumber, number, decimal, signed_value, kept_digits, is_minus, is_below_zero}
use Rattle.resp_value.specs.Data.{Kind, Array, Set, Map, Attr, Push, members_of, items_of, Scalar, Datum, Data, scalar, aggregate}
use Rattle.resp_value.specs.Data as d
use Rattle.resp_value.specs.Trees.{count, IsTree, AreTrees, IsLeaf, Spells}
use Rattle.resp_value.specs.TreeValues.{value, values, leaf_value}
use Rattle.resp_value.specs.Canonical.{canonical_tree, canonical_trees, canonical_leaf, canonical_text, sign_of, int_sign, int_size, IsValue, AreValues, IsScalarValue, IsWhole}
use Rattle.resp_value.specs.declared.version.Version.{Version}

-- what is added to digits can be taken away
digits_back : (digits : List ℕ) → map (λ c. c - 48) (map (λ d. d + 48) digits) ≡ digits
digits_back [] = refl
digits_back (d ∷ ds) = let h : d + 48 - 48 ≡ d = omega arith in let t : map (λ c. c - 48) (map (λ d. d + 48) ds) ≡ ds = digits_back ds in cc

digits_from_base : (digits : List ℕ) → AllBelowBase 10 digits → AllByRecursion IsDigit (map (λ d. d + 48) digits)
digits_from_base [] p = tt
digits_from_base (d ∷ ds) p = ((omega arith, omega arith), digits_from_base ds p.1)

-- the digits of a number as numbers
abbrev digit_values : ℕ → List ℕ
digit_values n = cond (eqb n 0) (0 ∷ []) (digits_of 10 n)

digit_values_are : (n : ℕ) → (0 < length (digit_values n)) × AllBelowBase 10 (digit_values n) × (number_from_digits 10 (digit_values n) ≡ n)
digit_values_are n = cases (eqb_tells n 0)
  where
    cases : ((eqb n 0 ≡ true) × (n ≡ 0)) ⊎ ((eqb n 0 ≡ false) × (n ≢ 0)) → (0 < length (digit_values n)) × AllBelowBase 10 (digit_values n) ×
        (number_from_digits 10 (digit_values n) ≡ n)
    cases (inl h) = rw h.0 (omega arith, (omega arith, tt), sym h.1)
    cases (inr h) = rw h.0 (omega (arith, length-digits_of_step 10 n), all_below_base_digits_of 10 n (omega arith), number_digits_of 10 n (omega arith))

-- the digits of a number say it
pub number-decimal : (n : ℕ) → number (decimal n) ≡ n
number-decimal n = ap (number_from_digits 10) (digits_back (digit_values n)) ∙ (digit_values_are n).2

-- the digits of a number are digits
pub decimal_is_digits : (n : ℕ) → IsDigits (decimal n)
decimal_is_digits n = (rw length-map (digit_values_are n).0, digits_from_base (digit_values n) (digit_values_are n).1)

-- the digits of a number are its digits
pub decimal_is_number : (n : ℕ) → IsNumber n (decimal n)
decimal_is_number n = (decimal_is_digits n, number-decimal n)

-- an integer's sign and digits say it
pub signed-decimal : (i : ℤ) → signed_value (int_sign i) (decimal (int_size i)) ≡ i
signed-decimal (pos n) = ap pos (number-decimal n)
signed-decimal (negsuc n) = ap (λ m. neg_ℤ (pos m)) (number-decimal (n + 1) ∙ add-one n)

-- a big number is negative as it says, since zero isn't
is_negative-minus_if : (negative : Bool) (digits : List ℕ) → (number digits ≡ 0 → negative ≡ false) → is_below_zero (sign_of negative) digits ≡ negative
is_negative-minus_if negative digits h = cases (eqb_tells (number digits) 0)
  where
    is_minus-minus_if : (b : Bool) → is_minus (sign_of b) ≡ b
    is_minus-minus_if true = refl
    is_minus-minus_if false = refl

    cases : ((eqb (number digits) 0 ≡ true) × (number digits ≡ 0)) ⊎ ((eqb (number digits) 0 ≡ false) × (number digits ≢ 0)) →
        is_below_zero (sign_of negative) digits ≡ negative
    cases (inl p) = ap (λ b. cond b false (is_minus (sign_of negative))) p.0 ∙ sym (h p.1)
    cases (inr p) = ap (λ b. cond b false (is_minus (sign_of negative))) p.0 ∙ is_minus-minus_if negative

leaf_value-canonical_leaf : (w : Version) (s : Scalar) → IsScalarValue s → leaf_value (canonical_leaf w s) ≡ s
leaf_value-canonical_leaf w d.Null p = refl
leaf_value-canonical_leaf w (d.Bool b) p = refl
leaf_value-canonical_leaf w (d.Int i) p = ap d.Int (signed-decimal i)
leaf_value-canonical_leaf w (d.Simple s) p = refl
leaf_value-canonical_leaf w (d.Error s) p = refl
leaf_value-canonical_leaf w (d.Double s) p = refl
leaf_value-canonical_leaf w (d.Bulk s) p = refl
leaf_value-canonical_leaf w (d.BulkError s) p = refl
leaf_value-canonical_leaf w (d.Verbatim format s) p = refl
leaf_value-canonical_leaf w (d.Big negative digits) p =
    let h : is_below_zero (sign_of negative) digits ≡ negative = is_negative-minus_if negative digits p.2 in
    let k : kept_digits digits ≡ digits = p.1 in
    cc

canonical_leaf_is_leaf : (w : Version) (s : Scalar) → IsScalarValue s → IsLeaf (canonical_leaf w s)
canonical_leaf_is_leaf w d.Null p = tt
canonical_leaf_is_leaf w (d.Bool b) p = tt
canonical_leaf_is_leaf w (d.Int i) p = decimal_is_digits (int_size i)
canonical_leaf_is_leaf w (d.Simple s) p = (p.0, p.1, tt)
canonical_leaf_is_leaf w (d.Error s) p = (p.0, p.1, tt)
canonical_leaf_is_leaf w (d.Double s) p = p
canonical_leaf_is_leaf w (d.Bulk s) p = (decimal_is_number (length s), tt, p)
canonical_leaf_is_leaf w (d.BulkError s) p = (decimal_is_number (length s), tt, p)
canonical_leaf_is_leaf w (d.Verbatim format s) p =
    let n : number (decimal (length s + 4)) ≡ length s + 4 = number-decimal (length s + 4) in
    let l : length (format ++ (58 ∷ s)) ≡ length format + length (58 ∷ s) = length-append format (58 ∷ s) in
    let three : length format ≡ 3 = p.0 in
    ((decimal_is_digits (length s + 4), omega arith), (p.0, p.1), p.2)
canonical_leaf_is_leaf w (d.Big negative digits) p = p.0

-- a canonical tree has as many members
pub count-canonical_trees : (w : Version) (xs : Data) → count (canonical_trees w xs) ≡ d.count xs
count-canonical_trees w d.none = refl
count-canonical_trees w (d.more x xs) = ap (λ n. n + 1) (count-canonical_trees w xs)

-- a canonical head counts the members
pub members_of-items_of : (k : Kind) (n : ℕ) → IsWhole k n → members_of k (number (decimal (items_of k n))) ≡ n
members_of-items_of Array n p = number-decimal n
members_of-items_of Set n p = number-decimal n
members_of-items_of Map n p = ap (λ m. m + m) (number-decimal (n / 2)) ∙ p
members_of-items_of Attr n p = ap (λ m. m + m + 1) (number-decimal (n / 2)) ∙ p
members_of-items_of Push n p = number-decimal n

mutual
  -- the canonical tree of a value is a tree
  pub canonical_tree_is_tree : (w : Version) (x : Datum) → IsValue x → IsTree (canonical_tree w x)
  canonical_tree_is_tree w (scalar s) p = canonical_leaf_is_leaf w s p
  canonical_tree_is_tree w (aggregate k xs) p = (
    (decimal_is_digits (items_of k (d.count xs)), members_of-items_of k (d.count xs) p.0 ∙ sym (count-canonical_trees w xs)),
    canonical_trees_are_trees w xs p.1,
  )

  canonical_trees_are_trees : (w : Version) (xs : Data) → AreValues xs → AreTrees (canonical_trees w xs)
  canonical_trees_are_trees w d.none p = tt
  canonical_trees_are_trees w (d.more x xs) p = (canonical_tree_is_tree w x p.0, canonical_trees_are_trees w xs p.1)

mutual
  -- the canonical tree of a value has this value
  pub value-canonical_tree : (w : Version) (x : Datum) → IsValue x → value (canonical_tree w x) ≡ x
  value-canonical_tree w (scalar s) p = ap scalar (leaf_value-canonical_leaf w s p)
  value-canonical_tree w (aggregate k xs) p = ap (aggregate k) (values-canonical_trees w xs p.1)

  values-canonical_trees : (w : Version) (xs : Data) → AreValues xs → values (canonical_trees w xs) ≡ xs
  values-canonical_trees w d.none p = refl
  values-canonical_trees w (d.more x xs) p =
      let a : value (canonical_tree w x) ≡ x = value-canonical_tree w x p.0 in
      let b : values (canonical_trees w xs) ≡ xs = values-canonical_trees w xs p.1 in
      cc

-- a canonical text is the text of its tree
pub canonical_spells : (w : Version) (x : Datum) → IsValue x → Spells (canonical_tree w x) (canonical_text w x)
canonical_spells w x p = record { is_tree = canonical_tree_is_tree w x p; spelled = refl }
