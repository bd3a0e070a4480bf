-- Bytes that no number, length or count has after its type byte, its sign and its digits.
use Rattle.std.proofs.Common.{◌≡◌, ℕ, ◌<◌, List, [], ◌∷◌, ◌++◌, refl, sym, ap, subst, ◌∙◌, arith, append_assoc, append-nil}
use Rattle.std.proofs.lemmas.Bool.{ne_eqb}
use Rattle.resp_value.specs.Numbers.{IsDigit, IsDigits, Sign, Unsigned, sign_text, number}
use Rattle.resp_value.specs.Data.{Kind, Array, Set, Map, Attr, Push}
use Rattle.resp_value.specs.Trees.{Tree, leaf, node, string, NumberKind, StringKind, Bulk, BulkError, Verbatim, Counted, Streamed, number_byte, string_byte, kind_byte, count, CanStream, IsTree}
use Rattle.resp_value.proofs.FirstLines.{numeral_sort, string_sort, leaf_of, node_of, sort, first_line, sort_of-line}
use Rattle.resp_value.proofs.Choices.{if_equal}
use Rattle.resp_fronts.proofs.FirstLines.BegunLines.{counted_is, tree_of_node}
use Rattle.resp_fronts.proofs.FirstLines.FirstLineRows.{tree_of_numeral, no_other, number_more_digits, is_string, sort_of_signed, digit_no_sign}
use Rattle.resp_fronts.proofs.FirstLines.MoreFirstLineRows.{string_size, verbatim_least, sort_mark}
use Rattle.resp_fronts.proofs.FirstLines.CountRows.{line_after}
use Rattle.resp_fronts.proofs.Refusals.RefusedBytes.{digits_hold}
use Rattle.resp_fronts.proofs.Refusals.BrokenLines.{NoLineGoesOn, NoLineEnds}

digits_of_number : (t : Tree) (K : NumberKind) (g : Sign) (a digits : List ℕ) → IsTree t → first_line t ≡ a → sort a ≡ leaf_of (numeral_sort K g digits) →
    IsDigits digits
digits_of_number t K g a digits p e s = subst IsTree (tree_of_numeral t K g digits (sort_of-line t p e ∙ s)) p

-- after the type byte of a number come a sign and digits alone, and digits alone after a sign
pub number_begun_broken : (K : NumberKind) (g : Sign) (byte : ℕ) → (g ≡ Unsigned → (byte ≡ 43 → ⊥) × (byte ≡ 45 → ⊥)) → (IsDigit byte → ⊥) →
    NoLineGoesOn (number_byte K ∷ (sign_text g ++ [])) byte
number_begun_broken K g byte no_sign no_digit t beyond p e =
    let h : first_line t ≡ number_byte K ∷ (sign_text g ++ byte ∷ beyond) = e ∙ ap (λ z. number_byte K ∷ z) (append_assoc (sign_text g) [] (byte ∷ beyond)) in
    no_digit ((digits_of_number t K g (number_byte K ∷ (sign_text g ++ byte ∷ beyond)) (byte ∷ beyond) p h (sort_of_signed K g byte beyond no_sign)).1.0)

-- after a number's digits come digits alone
pub number_broken : (K : NumberKind) (g : Sign) (digit : ℕ) (digits : List ℕ) (byte : ℕ) → IsDigit digit → (IsDigit byte → ⊥) →
    NoLineGoesOn (number_byte K ∷ (sign_text g ++ digit ∷ digits)) byte
number_broken K g digit digits byte is_digit no_digit t beyond p e =
    let h : first_line t ≡ number_byte K ∷ (sign_text g ++ digit ∷ (digits ++ byte ∷ beyond)) =
    e ∙ ap (λ z. number_byte K ∷ z) (append_assoc (sign_text g) (digit ∷ digits) (byte ∷ beyond)) in
    let q = digits_of_number t K g (number_byte K ∷ (sign_text g ++ digit ∷ (digits ++ byte ∷ beyond))) (digit ∷ (digits ++ byte ∷ beyond)) p h
    (sort_of_signed K g digit (digits ++ byte ∷ beyond) (digit_no_sign g digit is_digit)) in
    no_digit (digits_hold digits beyond byte q.1.1)

-- a number has a digit
pub number_short : (K : NumberKind) (g : Sign) → NoLineEnds (number_byte K ∷ (sign_text g ++ []))
number_short K g t p e =
    let n : 0 < 0 = number_more_digits K g t [] p (sort_of-line t p e ∙
    ap (λ z. sort (number_byte K ∷ z)) (sym (append-nil (sign_text g ++ [])))) in
    omega arith

-- what stands after a length's type byte, where it is no digit
abbrev pub IsNoLength : StringKind → ℕ → Type 0
IsNoLength Bulk byte = (byte ≡ 45 → ⊥) × (byte ≡ 63 → ⊥) × (IsDigit byte → ⊥)
IsNoLength BulkError byte = IsDigit byte → ⊥
IsNoLength (Verbatim format) byte = IsDigit byte → ⊥

digit_of_length : (t : Tree) (b first : ℕ) (a beyond : List ℕ) → IsTree t → first_line t ≡ a → sort a ≡ leaf_of (string_sort b (first ∷ beyond)) → IsDigit first
digit_of_length t b first a beyond p e s = let w = string_size t b (first ∷ beyond) p (sort_of-line t p e ∙ s) in w.4.1.0

-- after the type byte of a string come digits, and after `$` also `-` and `?`
pub length_begun_broken : (K : StringKind) (byte : ℕ) → IsNoLength K byte → NoLineGoesOn (string_byte K ∷ []) byte
length_begun_broken Bulk byte other t beyond p e = other.2 (digit_of_length t 36 byte (36 ∷ byte ∷ beyond) beyond p e
    (rw (ne_eqb byte 45 other.0, ne_eqb byte 63 other.1)))
length_begun_broken BulkError byte other t beyond p e = other (digit_of_length t 33 byte (33 ∷ byte ∷ beyond) beyond p e refl)
length_begun_broken (Verbatim format) byte other t beyond p e = other (digit_of_length t 61 byte (61 ∷ byte ∷ beyond) beyond p e refl)

-- after a length's digits come digits alone
pub length_broken : (K : StringKind) (digit : ℕ) (digits : List ℕ) (byte : ℕ) → IsDigit digit → (IsDigit byte → ⊥) →
    NoLineGoesOn (string_byte K ∷ digit ∷ digits) byte
length_broken K digit digits byte is_digit no_digit t beyond p e =
    let w = is_string t K digit (digits ++ byte ∷ beyond) is_digit (sort_of-line t p e) in
    let i : IsTree (leaf (string w.0 (digit ∷ (digits ++ byte ∷ beyond)) w.1)) = subst IsTree w.3 p in
    no_digit (digits_hold digits beyond byte i.0.0.1.1)

-- a length has a digit
pub length_short : (K : StringKind) → NoLineEnds (string_byte K ∷ [])
length_short Bulk t p e = no_other t (sort_of-line t p e)
length_short BulkError t p e = let w = string_size t 33 [] p (sort_of-line t p e) in let n : 0 < 0 = w.4.0 in omega arith
length_short (Verbatim format) t p e = let w = string_size t 61 [] p (sort_of-line t p e) in let n : 0 < 0 = w.4.0 in omega arith

-- a verbatim string's length counts its format and the `:`
pub verbatim_short : (digit : ℕ) (digits : List ℕ) → number (digit ∷ digits) < 4 → NoLineEnds (61 ∷ digit ∷ digits)
verbatim_short digit digits small t p e =
    let w = string_size t 61 (digit ∷ digits) p (sort_of-line t p e) in
    omega (arith, w.5, verbatim_least w.0 w.1 w.2 w.3)

-- what stands after an aggregate's type byte, where it is no digit
abbrev pub IsNoCount : Kind → ℕ → Type 0
IsNoCount Array byte = (byte ≡ 45 → ⊥) × (byte ≡ 63 → ⊥) × (IsDigit byte → ⊥)
IsNoCount Set byte = (byte ≡ 63 → ⊥) × (IsDigit byte → ⊥)
IsNoCount Map byte = (byte ≡ 63 → ⊥) × (IsDigit byte → ⊥)
IsNoCount Attr byte = IsDigit byte → ⊥
IsNoCount Push byte = IsDigit byte → ⊥

digit_of_count : (t : Tree) (k : Kind) (first : ℕ) (a beyond : List ℕ) → IsTree t → first_line t ≡ a → sort a ≡ node_of k (Counted (first ∷ beyond)) →
    IsDigit first
digit_of_count t k first a beyond p e s =
    let w = tree_of_node t k (Counted (first ∷ beyond)) (sort_of-line t p e ∙ s) in
    let i : IsTree (node k (Counted (first ∷ beyond)) w.0) = subst IsTree w.1 p in
    i.0.0.1.0

-- an aggregate of a kind that can't be streamed has no `?`
pub no_mark : (k : Kind) → ((n : ℕ) → CanStream k n → ⊥) → NoLineGoesOn (kind_byte k ∷ []) 63
no_mark k no_stream t beyond p e =
    let w = tree_of_node t k Streamed (sort_of-line t p e ∙ sort_mark k beyond) in
    let i : IsTree (node k Streamed w.0) = subst IsTree w.1 p in
    no_stream (count w.0) i.0

-- after the type byte of an aggregate come digits, after `*` also `-`, and after `*`, `~` and `%` also `?`
pub count_begun_broken : (k : Kind) (byte : ℕ) → IsNoCount k byte → NoLineGoesOn (kind_byte k ∷ []) byte
count_begun_broken Array byte other t beyond p e = other.2 (digit_of_count t Array byte (42 ∷ byte ∷ beyond) beyond p e
    (rw (ne_eqb byte 45 other.0, ne_eqb byte 63 other.1)))
count_begun_broken Set byte other t beyond p e = other.1 (digit_of_count t Set byte (126 ∷ byte ∷ beyond) beyond p e (rw (ne_eqb byte 63 other.0)))
count_begun_broken Map byte other t beyond p e = other.1 (digit_of_count t Map byte (37 ∷ byte ∷ beyond) beyond p e (rw (ne_eqb byte 63 other.0)))
count_begun_broken Attr byte other t beyond p e =
    if_equal byte 63 (λ x. ⊥) (λ mark. no_mark Attr (λ n s. s) t beyond p (e ∙ ap (λ z. 124 ∷ z ∷ beyond) mark))
    (λ no_mark. other (digit_of_count t Attr byte (124 ∷ byte ∷ beyond) beyond p e (rw (ne_eqb byte 63 no_mark))))
count_begun_broken Push byte other t beyond p e =
    if_equal byte 63 (λ x. ⊥) (λ mark. no_mark Push (λ n s. s) t beyond p (e ∙ ap (λ z. 62 ∷ z ∷ beyond) mark))
    (λ no_mark. other (digit_of_count t Push byte (62 ∷ byte ∷ beyond) beyond p e (rw (ne_eqb byte 63 no_mark))))

-- after a count's digits come digits alone
pub count_broken : (k : Kind) (digit : ℕ) (digits : List ℕ) (byte : ℕ) → IsDigit digit → (IsDigit byte → ⊥) → NoLineGoesOn (kind_byte k ∷ digit ∷ digits) byte
count_broken k digit digits byte is_digit no_digit t beyond p e =
    let w = counted_is t k digit (digits ++ byte ∷ beyond) p is_digit e in
    let i : IsTree (node k (Counted (digit ∷ (digits ++ byte ∷ beyond))) w.0) = subst IsTree w.1 p in
    no_digit (digits_hold digits beyond byte i.0.0.1.1)

-- a count has a digit
pub count_short : (k : Kind) → NoLineEnds (kind_byte k ∷ [])
count_short k t p e = let n : 0 < 0 = line_after t k [] p (sort_of-line t p e) in omega arith
