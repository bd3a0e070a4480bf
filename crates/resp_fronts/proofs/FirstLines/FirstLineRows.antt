-- Least completions of begun first lines: numbers, `_`, `#`, `$` and the lengths of strings.
use Rattle.std.proofs.Common.{◌++◌, ◌+◌, ◌<◌, ◌∙◌, ◌∷◌, ◌≡◌, ◌≤◌, Bool, List, [], ap, append-nil, append_assoc, arith, false, length, length-append, refl, subst, suc, sym, true, zero, ℕ}
use Rattle.std.specs.List.{AllByRecursion}
use Rattle.std.proofs.lemmas.Bool.{ne_eqb}
use Rattle.resp_value.specs.Bytes.{IsLine, IsText, crlf}
use Rattle.resp_value.specs.Data.{Array, Attr, Map, Push, Set}
use Rattle.resp_value.specs.LocalRules.{HoldsFrom, LeafRule, NodeRule}
use Rattle.resp_value.specs.Numbers.{IsDigit, IsDigits, Minus, Plus, Sign, Unsigned, number, sign_text}
use Rattle.resp_value.specs.Trees.{Chunk, ArrayNull, Big, Bulk, BulkError, BulkNull, Double, Error, HasFormat, Int, IsTree, NumberKind, PlainNull, Simple, StringKind, Tree, Verbatim, chunked, chunks_text, leaf, line, node, null, number_byte, numeral, payload, string, string_byte, truth, truth_line}
use Rattle.resp_value.proofs.FirstBytes.{byte_at_start}
use Rattle.resp_value.proofs.FirstLines.{after_line, chunked_sort, first_line, leaf_of, no_sort, numeral_sort, sort, sort_after_dollar, sort_of, string_sort, sort_of-line}
use Rattle.resp_value.proofs.Splitting.{digit_is_no, digit_is_no_mark, line_from_each}
use Rattle.resp_value.proofs.DigitLemmas.{number-more}
use Rattle.resp_fronts.specs.LeastCompletions.{HasLeast}
use Rattle.resp_fronts.specs.MayFollow.{CompletesValue}
use Rattle.resp_fronts.proofs.FirstLines.BegunLines.{completes_line, text_first}
use Rattle.resp_fronts.specs.Tokens.{zeros}

-- a line that can go on by l0
pub line_row : (L : LeafRule) (N : NodeRule) (k : ℕ) (b l0 : List ℕ) (t : Tree) (m : ℕ) → IsLine b → IsTree t → HoldsFrom L N k t → first_line t ≡ b ++ l0 →
    m ≡ length l0 + length (after_line t) → ((u : Tree) (l : List ℕ) → IsTree u → HoldsFrom L N k u → sort_of u ≡ sort (b ++ l) →
    m ≤ length l + length (after_line u)) → HasLeast (CompletesValue L N k b) (m + 2)
line_row L N k b l0 t m z p q e h f = record {
  some = l0 ++ crlf (after_line t);
  holds = record { tree = t; is_tree = p; keep = q; whole = text_first t ∙ ap (λ w. w ++ crlf (after_line t)) e ∙ append_assoc b l0 (crlf (after_line t)) };
  size = omega (arith, length-append l0 (crlf (after_line t)));
  least = λ c w. (let u = completes_line L N k b c z w in omega (
    arith,
    f u.tree u.line u.is_tree u.keep (sort_of-line u.tree u.is_tree u.begins),
    ap length u.whole,
    length-append u.line (crlf (after_line u.tree)),
  ));
}

-- a tree of this sort is such a number
pub tree_of_numeral : (t : Tree) (k : NumberKind) (g : Sign) (ds : List ℕ) → sort_of t ≡ leaf_of (numeral_sort k g ds) → t ≡ leaf (numeral k g ds)
tree_of_numeral (leaf (numeral j h r)) k g ds e = cc
tree_of_numeral _ k g ds e = absurd (cc)

-- a tree of this sort is such a string
pub tree_of_string : (t : Tree) (b : ℕ) (ds : List ℕ) → sort_of t ≡ leaf_of (string_sort b ds) → (k : StringKind) × (s : List ℕ) × (string_byte k ≡ b) ×
    (t ≡ leaf (string k ds s))
tree_of_string (leaf (string j es r)) b ds e = let h : es ≡ ds = cc in (j, r, cc, cc)
tree_of_string _ b ds e = absurd (cc)

-- a tree of this sort is a streamed string
pub tree_of_chunked : (t : Tree) → sort_of t ≡ leaf_of chunked_sort → (cs : List Chunk) × (z : List ℕ) × (t ≡ leaf (chunked cs z))
tree_of_chunked (leaf (chunked cs z)) e = (cs, z, refl)
tree_of_chunked _ e = absurd (cc)

-- a tree has a sort
pub no_other : (t : Tree) → sort_of t ≡ no_sort → ⊥
no_other (leaf l) e = cc
no_other (node j f ts) e = cc

-- a number's line has no break in it
pub number_line : (K : NumberKind) (g : Sign) (ds : List ℕ) → AllByRecursion IsDigit ds → IsLine (number_byte K ∷ (sign_text g ++ ds))
number_line Int Unsigned ds p = ((λ e. omega arith, λ e. omega arith), line_from_each ds p)
number_line Big Unsigned ds p = ((λ e. omega arith, λ e. omega arith), line_from_each ds p)
number_line _ _ ds p = ((λ e. omega arith, λ e. omega arith), ((λ e. omega arith, λ e. omega arith), line_from_each ds p))

-- a zero is digits
pub zero_digits : IsDigits (48 ∷ [])
zero_digits = (omega arith, ((omega arith, omega arith), tt))

no_digits : (t : Tree) (K : NumberKind) (g : Sign) → IsTree t → sort_of t ≡ leaf_of (numeral_sort K g []) → ⊥
no_digits t K g p e = let q : IsTree (leaf (numeral K g [])) = subst IsTree (tree_of_numeral t K g [] e) p in let n : 0 < 0 = q.0 in omega arith

-- a number has a digit
pub number_more_digits : (K : NumberKind) (g : Sign) (t : Tree) (l : List ℕ) → IsTree t → sort_of t ≡ sort (number_byte K ∷ (sign_text g ++ []) ++ l) →
    0 < length l
number_more_digits K g t (c ∷ l) p e = omega arith
number_more_digits Int Unsigned t [] p e = absurd (no_other t e)
number_more_digits Int Plus t [] p e = absurd (no_digits t Int Plus p e)
number_more_digits Int Minus t [] p e = absurd (no_digits t Int Minus p e)
number_more_digits Big Unsigned t [] p e = absurd (no_other t e)
number_more_digits Big Plus t [] p e = absurd (no_digits t Big Plus p e)
number_more_digits Big Minus t [] p e = absurd (no_digits t Big Minus p e)

-- `:`, `(` and a sign after them: 3
pub number_begin_row : (L : LeafRule) (N : NodeRule) (k : ℕ) (K : NumberKind) (g : Sign) → L k (numeral K g (48 ∷ [])) →
    HasLeast (CompletesValue L N k (number_byte K ∷ (sign_text g ++ []))) 3
unfolding first_line
number_begin_row L N k K g h =
    line_row L N k (number_byte K ∷ (sign_text g ++ [])) (48 ∷ []) (leaf (numeral K g (48 ∷ []))) 1 (number_line K g [] tt) zero_digits h
    (ap (λ z. number_byte K ∷ z) (sym (append_assoc (sign_text g) [] (48 ∷ [])))) refl
    (λ u l i j e. omega (arith, number_more_digits K g u l i e))

-- digits of a number: 2
pub number_row : (L : LeafRule) (N : NodeRule) (k : ℕ) (K : NumberKind) (g : Sign) (ds : List ℕ) → IsDigits ds → L k (numeral K g ds) →
    HasLeast (CompletesValue L N k (number_byte K ∷ (sign_text g ++ ds))) 2
unfolding first_line
number_row L N k K g ds p h = line_row L N k (number_byte K ∷ (sign_text g ++ ds)) [] (leaf (numeral K g ds)) 0 (number_line K g ds p.1) p h
    (sym (append-nil (number_byte K ∷ (sign_text g ++ ds)))) refl (λ u l i j e. omega arith)

-- `_`: 2
pub null_row : (L : LeafRule) (N : NodeRule) (k : ℕ) → L k (null PlainNull) → HasLeast (CompletesValue L N k (95 ∷ [])) 2
unfolding first_line
null_row L N k h = line_row L N k (95 ∷ []) [] (leaf (null PlainNull)) 0 ((λ e. omega arith, λ e. omega arith), tt) tt h refl refl (λ u l i j e. omega arith)

-- `#`: 3, and 2 with its letter
pub truth_begin_row : (L : LeafRule) (N : NodeRule) (k : ℕ) → L k (truth true) → HasLeast (CompletesValue L N k (35 ∷ [])) 3
unfolding first_line
truth_begin_row L N k h = line_row L N k (35 ∷ []) (116 ∷ []) (leaf (truth true)) 1 ((λ e. omega arith, λ e. omega arith), tt) tt h refl refl
    (λ u l i j e. more_truth u l e)
  where
    more_truth : (u : Tree) (l : List ℕ) → sort_of u ≡ sort (35 ∷ l) → 1 ≤ length l + length (after_line u)
    more_truth u [] e = absurd (no_other u e)
    more_truth u (c ∷ l) e = omega arith

-- `#t` and `#f`: 2
pub truth_row : (L : LeafRule) (N : NodeRule) (k : ℕ) (b : Bool) → L k (truth b) → HasLeast (CompletesValue L N k (truth_line b)) 2
unfolding first_line
truth_row L N k true h = line_row L N k (35 ∷ 116 ∷ []) [] (leaf (truth true)) 0 (
  (λ e. omega arith, λ e. omega arith),
  ((λ e. omega arith, λ e. omega arith), tt),
) tt h refl refl (λ u l i j e. omega arith)
truth_row L N k false h = line_row L N k (35 ∷ 102 ∷ []) [] (leaf (truth false)) 0 (
  (λ e. omega arith, λ e. omega arith),
  ((λ e. omega arith, λ e. omega arith), tt),
) tt h refl refl (λ u l i j e. omega arith)

-- as many zeros as were asked for
pub length-zeros : (n : ℕ) → length (zeros n) ≡ n
length-zeros zero = refl
length-zeros (suc n) = omega (arith, length-zeros n)

-- zeros are bytes
pub are_zeros : (n : ℕ) → IsText (zeros n)
are_zeros zero = tt
are_zeros (suc n) = (omega arith, are_zeros n)

-- `$`: 4, by its null
pub dollar_more : (t : Tree) (l : List ℕ) → IsTree t → sort_of t ≡ sort_after_dollar l → first_line t ≡ 36 ∷ l → 2 ≤ length l + length (after_line t)
unfolding first_line
dollar_more (leaf (null BulkNull)) l p e b = omega (arith, ap length b)
dollar_more (leaf (null ArrayNull)) l p e b = omega (arith, ap byte_at_start b)
dollar_more (leaf (null PlainNull)) l p e b = omega (arith, ap byte_at_start b)
dollar_more (leaf (string K ds s)) l p e b = let n : 0 < length ds = p.0.0.0 in omega (arith, ap length b, length-append (payload K s) (crlf []))
dollar_more (leaf (chunked cs z)) l p e b = let n = stream_rest cs z in omega (arith, ap length b)
  where
    stream_rest : (cs : List Chunk) (z : List ℕ) → 1 ≤ length (chunks_text cs ((59 ∷ z) ++ crlf []))
    stream_rest [] z = omega arith
    stream_rest (c ∷ cs) z = omega arith
dollar_more (leaf (line Simple s)) l p e b = omega (arith, ap byte_at_start b)
dollar_more (leaf (line Error s)) l p e b = omega (arith, ap byte_at_start b)
dollar_more (leaf (line Double s)) l p e b = omega (arith, ap byte_at_start b)
dollar_more (leaf (numeral Int g ds)) l p e b = omega (arith, ap byte_at_start b)
dollar_more (leaf (numeral Big g ds)) l p e b = omega (arith, ap byte_at_start b)
dollar_more (leaf (truth true)) l p e b = omega (arith, ap byte_at_start b)
dollar_more (leaf (truth false)) l p e b = omega (arith, ap byte_at_start b)
dollar_more (node Array f ts) l p e b = omega (arith, ap byte_at_start b)
dollar_more (node Set f ts) l p e b = omega (arith, ap byte_at_start b)
dollar_more (node Map f ts) l p e b = omega (arith, ap byte_at_start b)
dollar_more (node Attr f ts) l p e b = omega (arith, ap byte_at_start b)
dollar_more (node Push f ts) l p e b = omega (arith, ap byte_at_start b)

-- a string's first line has no break in it
pub string_line : (K : StringKind) (ds : List ℕ) → AllByRecursion IsDigit ds → IsLine (string_byte K ∷ ds)
string_line Bulk ds p = ((λ e. omega arith, λ e. omega arith), line_from_each ds p)
string_line _ ds p = ((λ e. omega arith, λ e. omega arith), line_from_each ds p)

sort_string : (K : StringKind) (d : ℕ) (cs : List ℕ) → IsDigit d → sort (string_byte K ∷ d ∷ cs) ≡ leaf_of (string_sort (string_byte K) (d ∷ cs))
sort_string Bulk d cs p = rw (digit_is_no d 45 p (omega arith), digit_is_no_mark d p)
sort_string BulkError d cs p = refl
sort_string (Verbatim f) d cs p = refl

-- a first line with a string's type byte and a digit is a string's
pub is_string : (t : Tree) (K : StringKind) (d : ℕ) (cs : List ℕ) → IsDigit d → sort_of t ≡ sort (string_byte K ∷ d ∷ cs) →
    (J : StringKind) × (s : List ℕ) × (string_byte J ≡ string_byte K) × (t ≡ leaf (string J (d ∷ cs) s))
is_string t K d cs q e = tree_of_string t (string_byte K) (d ∷ cs) (e ∙ sort_string K d cs q)

-- a length's digits: the length, and 4; of a verbatim string from 4 on
pub string_row : (L : LeafRule) (N : NodeRule) (k : ℕ) (K : StringKind) (d : ℕ) (ds s : List ℕ) → IsDigits (d ∷ ds) → HasFormat K → IsText s →
    number (d ∷ ds) ≡ length (payload K s) → L k (string K (d ∷ ds) s) → HasLeast (CompletesValue L N k (string_byte K ∷ d ∷ ds)) (number (d ∷ ds) + 2 + 2)
unfolding first_line
string_row L N k K d ds s p x y n h =
    line_row L N k (string_byte K ∷ d ∷ ds) [] (leaf (string K (d ∷ ds) s)) (number (d ∷ ds) + 2) (string_line K (d ∷ ds) p.1) ((p, n), x, y) h
    (sym (append-nil (string_byte K ∷ d ∷ ds))) (omega (arith, length-append (payload K s) (crlf [])))
    (λ u l i j e. (let w = is_string u K d (ds ++ l) p.1.0 e in
    let i2 : IsTree (leaf (string w.0 (d ∷ ds ++ l) w.1)) = subst IsTree w.3 i in
    let c : number (d ∷ ds ++ l) ≡ length (payload w.0 w.1) = i2.0.1 in
    let a : length (after_line u) ≡ length (payload w.0 w.1 ++ crlf []) = ap (λ z. length (after_line z)) w.3 in
    omega (arith, number-more (d ∷ ds) l, length-append (payload w.0 w.1) (crlf []))))

-- `$?`: 6
pub chunked_row : (L : LeafRule) (N : NodeRule) (k : ℕ) → L k (chunked [] (48 ∷ [])) → HasLeast (CompletesValue L N k (36 ∷ 63 ∷ [])) 6
unfolding first_line
chunked_row L N k h = line_row L N k (36 ∷ 63 ∷ []) [] (leaf (chunked [] (48 ∷ []))) 4 (
  (λ e. omega arith, λ e. omega arith),
  ((λ e. omega arith, λ e. omega arith), tt),
) (tt, (zero_digits, refl)) h refl refl
    (λ u l i j e. (let w = tree_of_chunked u e in
    let i2 : IsTree (leaf (chunked w.0 w.1)) = subst IsTree w.2 i in
    let n : 0 < length w.1 = i2.1.0.0 in
    let a : length (after_line u) ≡ length (chunks_text w.0 ((59 ∷ w.1) ++ crlf [])) = ap (λ z. length (after_line z)) w.2 in
    omega (arith, chunks_least w.0 w.1 n)))
  where
    chunks_least : (cs : List Chunk) (z : List ℕ) → 0 < length z → 4 ≤ length (chunks_text cs ((59 ∷ z) ++ crlf []))
    chunks_least [] z n = omega (arith, length-append z (crlf []))
    chunks_least (c ∷ cs) z n = let m = chunks_least cs z n in omega (
      arith,
      length-append c.digits (crlf (c.content ++ crlf (chunks_text cs ((59 ∷ z) ++ crlf [])))),
      length-append c.content (crlf (chunks_text cs ((59 ∷ z) ++ crlf []))),
    )

-- a number's type byte, its sign and what follows say so
pub sort_of_signed : (K : NumberKind) (g : Sign) (first : ℕ) (beyond : List ℕ) → (g ≡ Unsigned → (first ≡ 43 → ⊥) × (first ≡ 45 → ⊥)) →
    sort (number_byte K ∷ (sign_text g ++ first ∷ beyond)) ≡ leaf_of (numeral_sort K g (first ∷ beyond))
sort_of_signed Int Unsigned first beyond h = let other = h refl in rw (ne_eqb first 43 other.0, ne_eqb first 45 other.1)
sort_of_signed Big Unsigned first beyond h = let other = h refl in rw (ne_eqb first 43 other.0, ne_eqb first 45 other.1)
sort_of_signed _ _ first beyond h = refl

-- a digit is no sign
pub digit_no_sign : (g : Sign) (digit : ℕ) → IsDigit digit → g ≡ Unsigned → (digit ≡ 43 → ⊥) × (digit ≡ 45 → ⊥)
digit_no_sign g digit p e = (λ h. omega arith, λ h. omega arith)

-- the sort of a number's first line after a digit
pub sort_of_digits : (K : NumberKind) (g : Sign) (digit : ℕ) (digits beyond : List ℕ) → IsDigit digit →
    sort (number_byte K ∷ ((sign_text g ++ digit ∷ digits) ++ beyond)) ≡ leaf_of (numeral_sort K g (digit ∷ digits ++ beyond))
sort_of_digits K g digit digits beyond p = ap (λ z. sort (number_byte K ∷ z)) (append_assoc (sign_text g) (digit ∷ digits) beyond) ∙
    sort_of_signed K g digit (digits ++ beyond) (digit_no_sign g digit p)
