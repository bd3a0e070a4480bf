-- Leaves that are not there.
use Rattle.std.proofs.Common.{◌≡◌, ℕ, pos, neg_ℤ, ◌≤ℤ◌, ◌<ℤ◌, Bool, true, false, ◌⊎◌, ◌==◌, inl, inr, subst, drop, get_or, ◌+◌, ◌^◌, ◌≤◌, List, [], ◌∷◌, ◌++◌, length, refl, sym, ap, ◌∙◌, arith, append_assoc, length-append, length-drop}
use Rattle.std.specs.Bool.{MatchBool}
use Rattle.resp_value.specs.Bytes.{IsLine, crlf}
use Rattle.resp_value.specs.LocalRules.{LeafKeeps}
use Rattle.resp_value.specs.Numbers.{Unsigned, Plus, Minus, IsNumber, number}
use Rattle.resp_value.specs.Doubles.{IsDouble}
use Rattle.resp_value.specs.Rules.{Rules, WithinItems, NoDouble, InRange, WithinLength, IsLeafInTwo}
use Rattle.resp_value.specs.Trees.{Leaf, Simple, Error, Double, Int, Big, Bulk, BulkError, Verbatim, BulkNull, ArrayNull, PlainNull, line, numeral, null, truth, string, chunked, IsLeaf, leaf_line, leaf_rest, leaf_text, truth_line}
use Rattle.resp_value.proofs.FirstBytes.{leaf_begins, leaf_byte}
use Rattle.resp_value.proofs.Splitting.{line_split}
use Rattle.resp_flat.specs.Plain.{BeginsWithLine, BeginsWithNumber, HasLeaf, IsPlainLeaf}
use Rattle.resp_flat.proofs.NoneThere.{first_of_rest, rest_after}

-- no line of these lengths is there
abbrev pub NoLine : ℕ → List ℕ → Type 0
NoLine most text = (size : ℕ) (rest : List ℕ) → size ≤ most → BeginsWithLine text size (crlf rest) → ⊥

-- no string of these lengths is there, with its length in front of it
abbrev pub NoString : ℕ → List ℕ → Type 0
NoString most text = (s rest : List ℕ) → length s ≤ most → BeginsWithNumber text (length s) (s ++ crlf rest) → ⊥

-- no verbatim string of these lengths is there
abbrev pub NoVerbatim : ℕ → List ℕ → Type 0
NoVerbatim most text = (format s rest : List ℕ) → length format ≡ 3 → length s + 4 ≤ most →
    BeginsWithNumber text (length (format ++ 58 ∷ s)) ((format ++ 58 ∷ s) ++ crlf rest) → ⊥

-- no number up to this one is there
abbrev pub NoNumber : ℕ → List ℕ → Type 0
NoNumber most text = (n : ℕ) (rest : List ℕ) → n ≤ most → BeginsWithNumber text n rest → ⊥

-- no number up to this one is there after a `-`
abbrev pub NoNumberBelow : ℕ → List ℕ → Type 0
NoNumberBelow most text = (n : ℕ) (more rest : List ℕ) → n ≤ most → text ≡ 45 ∷ more → BeginsWithNumber more n rest → ⊥

-- no `-1` is there
abbrev pub NoNull : List ℕ → Type 0
NoNull text = (rest : List ℕ) → text ≡ 45 ∷ 49 ∷ crlf rest → ⊥

-- two lines at one place have one length
pub same_size : (text : List ℕ) (n m : ℕ) (x y : List ℕ) → BeginsWithLine text n (crlf x) → BeginsWithLine text m (crlf y) → n ≡ m
same_size text n m x y b d =
    let s = line_split b.line d.line x y b.is_line d.is_line (sym b.whole ∙ d.whole) in
    sym b.sized ∙ ap length s.0 ∙ d.sized

-- the first byte of a leaf
pub first_of_leaf : (l : Leaf) (at : ℕ) (buffer rest : List ℕ) → drop at buffer ≡ leaf_text l ++ rest → get_or buffer at 0 ≡ leaf_byte l
first_of_leaf l at buffer rest e =
    let (cs, h) = leaf_begins l in
    sym (first_of_rest buffer at) ∙ ap (λ z. get_or z 0 0) e ∙ ap (λ z. get_or ((z ++ crlf (leaf_rest l)) ++ rest) 0 0) h

-- the bytes of a leaf of one line, after the first
after_first : (c : ℕ) (s : List ℕ) (at : ℕ) (buffer rest : List ℕ) → drop at buffer ≡ ((c ∷ s) ++ crlf []) ++ rest → drop (at + 1) buffer ≡ s ++ crlf rest
after_first c s at buffer rest e = rest_after (c ∷ []) at buffer (s ++ crlf rest) (e ∙ append_assoc (c ∷ s) (crlf []) rest)

-- the bytes of a string, after the first
after_first_of_string : (c : ℕ) (digits p : List ℕ) (at : ℕ) (buffer rest : List ℕ) → drop at buffer ≡ ((c ∷ digits) ++ crlf (p ++ crlf [])) ++ rest →
    drop (at + 1) buffer ≡ digits ++ crlf (p ++ crlf rest)
after_first_of_string c digits p at buffer rest e = rest_after (c ∷ []) at buffer (digits ++ crlf (p ++ crlf rest))
    (e ∙ append_assoc (c ∷ digits) (crlf (p ++ crlf [])) rest ∙ ap (λ z. (c ∷ digits) ++ crlf z) (append_assoc p (crlf []) rest))

-- a line is there
a_line : (r : Rules) (c : ℕ) (s : List ℕ) (at : ℕ) (buffer rest : List ℕ) → IsLine s → length s ≤ r.limits.length →
    drop at buffer ≡ ((c ∷ s) ++ crlf []) ++ rest → NoLine r.limits.length (drop (at + 1) buffer) → ⊥
a_line r c s at buffer rest is few e none =
    none (length s) rest few (record { line = s; is_line = is; sized = refl; whole = after_first c s at buffer rest e })

-- a string is there
a_string : (r : Rules) (c : ℕ) (digits s : List ℕ) (at : ℕ) (buffer rest : List ℕ) → IsNumber (length s) digits → length s ≤ r.limits.length →
    drop at buffer ≡ ((c ∷ digits) ++ crlf (s ++ crlf [])) ++ rest → NoString r.limits.length (drop (at + 1) buffer) → ⊥
a_string r c digits s at buffer rest is few e none =
    none s rest few (record { digits = digits; counted = is; whole = after_first_of_string c digits s at buffer rest e })

-- what is known of the leaf that is there
abbrev IsThere : Rules → ℕ → List ℕ → ℕ → List ℕ → Leaf → Type 0
IsThere r level buffer at rest l = IsLeaf l × LeafKeeps r WithinItems level l × (drop at buffer ≡ leaf_text l ++ rest)

-- the plain leaves that begin with this byte
abbrev OfByte : (Leaf → Type 0) → ℕ → Type 0
OfByte P b =
    MatchBool (b == 36) (((digits s : List ℕ) × P (string Bulk digits s)) ⊎ P (null BulkNull))
    (MatchBool (b == 42) (P (null ArrayNull))
    (MatchBool (b == 58) (((digits : List ℕ) × P (numeral Int Unsigned digits)) ⊎ ((digits : List ℕ) × P (numeral Int Minus digits)))
    (MatchBool (b == 43) ((s : List ℕ) × P (line Simple s))
    (MatchBool (b == 45) ((s : List ℕ) × P (line Error s))
    (MatchBool (b == 44) ((s : List ℕ) × P (line Double s))
    (MatchBool (b == 95) (P (null PlainNull))
    (MatchBool (b == 35) ((on : Bool) × P (truth on))
    (MatchBool (b == 33) ((digits s : List ℕ) × P (string BulkError digits s))
    ((format digits s : List ℕ) × P (string (Verbatim format) digits s))))))))))

of_byte : (P : Leaf → Type 0) (level : ℕ) (l : Leaf) → IsPlainLeaf level l → P l → OfByte P (leaf_byte l)
of_byte P level (line Simple s) plain p = (s, p)
of_byte P level (line Error s) plain p = (s, p)
of_byte P level (line Double s) plain p = (s, p)
of_byte P level (numeral Int Unsigned digits) plain p = inl (digits, p)
of_byte P level (numeral Int Plus digits) plain p = absurd plain
of_byte P level (numeral Int Minus digits) plain p = inr (digits, p)
of_byte P level (numeral Big sign digits) plain p = absurd plain
of_byte P level (null BulkNull) plain p = inr p
of_byte P level (null ArrayNull) plain p = p
of_byte P level (null PlainNull) plain p = p
of_byte P level (truth on) plain p = (on, p)
of_byte P level (string Bulk digits s) plain p = inl (digits, s, p)
of_byte P level (string BulkError digits s) plain p = (digits, s, p)
of_byte P level (string (Verbatim format) digits s) plain p = (format, digits, s, p)
of_byte P level (chunked chunks zeros) plain p = absurd plain

leaf_at : (r : Rules) (level : ℕ) (buffer : List ℕ) (at b : ℕ) → get_or buffer at 0 ≡ b → (has : HasLeaf r level buffer at) →
    OfByte (IsThere r level buffer at has.rest) b
leaf_at r level buffer at b first has =
    subst (OfByte (IsThere r level buffer at has.rest)) (sym (first_of_leaf has.leaf at buffer has.rest has.whole) ∙ first)
    (of_byte (IsThere r level buffer at has.rest) level has.leaf has.plain (has.is_leaf, has.keeps, has.whole))

-- a bulk string or a null
pub no_dollar : (r : Rules) (level : ℕ) (buffer : List ℕ) (at : ℕ) → get_or buffer at 0 ≡ 36 → NoString r.limits.length (drop (at + 1) buffer) →
    NoNull (drop (at + 1) buffer) → HasLeaf r level buffer at → ⊥
no_dollar r level buffer at first no_string no_null has = go (leaf_at r level buffer at 36 first has)
  where
    go : OfByte (IsThere r level buffer at has.rest) 36 → ⊥
    go (inl (digits, s, (is, keeps, e))) = a_string r 36 digits s at buffer has.rest is.0 (keeps WithinLength (omega arith)) e no_string
    go (inr (is, keeps, e)) = no_null has.rest (after_first 36 (45 ∷ 49 ∷ []) at buffer has.rest e)

-- a null of an array
pub no_star : (r : Rules) (level : ℕ) (buffer : List ℕ) (at : ℕ) → get_or buffer at 0 ≡ 42 → NoNull (drop (at + 1) buffer) → HasLeaf r level buffer at → ⊥
no_star r level buffer at first no_null has =
    let (is, keeps, e) = leaf_at r level buffer at 42 first has in no_null has.rest (after_first 42 (45 ∷ 49 ∷ []) at buffer has.rest e)

-- the greatest integer
at_most : (digits : List ℕ) → (neg_ℤ (pos (2 ^ 63)) ≤ℤ pos (number digits)) × (pos (number digits) <ℤ pos (2 ^ 63)) → number digits ≤ 9223372036854775807
at_most digits h = let high = h.1 in grind (arith, high)

-- the least integer
at_least : (digits : List ℕ) → (neg_ℤ (pos (2 ^ 63)) ≤ℤ neg_ℤ (pos (number digits))) × (neg_ℤ (pos (number digits)) <ℤ pos (2 ^ 63)) →
    number digits ≤ 9223372036854775808
at_least digits h = let low = h.0 in grind (arith, low)

-- an integer
pub no_integer : (r : Rules) (level : ℕ) (buffer : List ℕ) (at : ℕ) → get_or buffer at 0 ≡ 58 → NoNumber 9223372036854775807 (drop (at + 1) buffer) →
    NoNumberBelow 9223372036854775808 (drop (at + 1) buffer) → HasLeaf r level buffer at → ⊥
no_integer r level buffer at first no_number no_below has = go (leaf_at r level buffer at 58 first has)
  where
    go : OfByte (IsThere r level buffer at has.rest) 58 → ⊥
    go (inl (digits, (is, keeps, e))) =
        no_number (number digits) has.rest (at_most digits (keeps InRange (omega arith)))
        (record { digits = digits; counted = (is, refl); whole = after_first 58 digits at buffer has.rest e })
    go (inr (digits, (is, keeps, e))) =
        no_below (number digits) (digits ++ crlf has.rest) has.rest (at_least digits (keeps InRange (omega arith)))
        (after_first 58 (45 ∷ digits) at buffer has.rest e) (record { digits = digits; counted = (is, refl); whole = refl })

-- a simple string
pub no_simple : (r : Rules) (level : ℕ) (buffer : List ℕ) (at : ℕ) → get_or buffer at 0 ≡ 43 → NoLine r.limits.length (drop (at + 1) buffer) →
    HasLeaf r level buffer at → ⊥
no_simple r level buffer at first no_line has =
    let (s, (is, keeps, e)) = leaf_at r level buffer at 43 first has in
    a_line r 43 s at buffer has.rest is.0 (keeps WithinLength (omega arith)) e no_line

-- an error
pub no_error : (r : Rules) (level : ℕ) (buffer : List ℕ) (at : ℕ) → get_or buffer at 0 ≡ 45 → NoLine r.limits.length (drop (at + 1) buffer) →
    HasLeaf r level buffer at → ⊥
no_error r level buffer at first no_line has =
    let (s, (is, keeps, e)) = leaf_at r level buffer at 45 first has in
    a_line r 45 s at buffer has.rest is.0 (keeps WithinLength (omega arith)) e no_line

-- a double
pub no_double : (r : Rules) (level : ℕ) (buffer : List ℕ) (at : ℕ) → get_or buffer at 0 ≡ 44 → ((text rest : List ℕ) → IsDouble text →
    length text ≤ r.limits.length → drop (at + 1) buffer ≡ text ++ crlf rest → ⊥) → HasLeaf r level buffer at → ⊥
no_double r level buffer at first none has =
    let (s, (is, keeps, e)) = leaf_at r level buffer at 44 first has in
    none s has.rest is.2 (keeps WithinLength (omega arith)) (after_first 44 s at buffer has.rest e)

-- a double, which the limits do not allow
pub no_double_allowed : (r : Rules) (level : ℕ) (buffer : List ℕ) (at : ℕ) → get_or buffer at 0 ≡ 44 → r.limits.doubles ≡ false → HasLeaf r level buffer at → ⊥
no_double_allowed r level buffer at first off has =
    let (s, (is, keeps, e)) = leaf_at r level buffer at 44 first has in keeps NoDouble (omega arith) off

-- a null of version 3
pub no_plain_null : (r : Rules) (level : ℕ) (buffer : List ℕ) (at : ℕ) → get_or buffer at 0 ≡ 95 → ((rest : List ℕ) → drop (at + 1) buffer ≡ crlf rest →
    ⊥) → HasLeaf r level buffer at → ⊥
no_plain_null r level buffer at first no_end has =
    let (is, keeps, e) = leaf_at r level buffer at 95 first has in no_end has.rest (after_first 95 [] at buffer has.rest e)

-- a boolean
pub no_truth : (r : Rules) (level : ℕ) (buffer : List ℕ) (at : ℕ) → get_or buffer at 0 ≡ 35 → ((b : Bool) (rest : List ℕ) →
    drop at buffer ≡ truth_line b ++ crlf rest → ⊥) → HasLeaf r level buffer at → ⊥
no_truth r level buffer at first no_line has =
    let (on, (is, keeps, e)) = leaf_at r level buffer at 35 first has in no_line on has.rest (e ∙ append_assoc (truth_line on) (crlf []) has.rest)

-- a bulk error
pub no_bulk_error : (r : Rules) (level : ℕ) (buffer : List ℕ) (at : ℕ) → get_or buffer at 0 ≡ 33 → NoString r.limits.length (drop (at + 1) buffer) →
    HasLeaf r level buffer at → ⊥
no_bulk_error r level buffer at first no_string has =
    let (digits, s, (is, keeps, e)) = leaf_at r level buffer at 33 first has in
    a_string r 33 digits s at buffer has.rest is.0 (keeps WithinLength (omega arith)) e no_string

-- a verbatim string
pub no_verbatim : (r : Rules) (level : ℕ) (buffer : List ℕ) (at : ℕ) → get_or buffer at 0 ≡ 61 → NoVerbatim r.limits.length (drop (at + 1) buffer) →
    HasLeaf r level buffer at → ⊥
no_verbatim r level buffer at first no_string has =
    let (format, digits, s, (is, keeps, e)) = leaf_at r level buffer at 61 first has in
    no_string format s has.rest is.1.0 (keeps WithinLength (omega arith))
    (record { digits = digits; counted = is.0; whole = after_first_of_string 61 digits (format ++ 58 ∷ s) at buffer has.rest e })

-- the leaves of version 2 begin with these bytes
pub no_other_in_two : (r : Rules) (level : ℕ) (buffer : List ℕ) (at : ℕ) → (get_or buffer at 0 ≡ 36 → ⊥) → (get_or buffer at 0 ≡ 58 → ⊥) →
    (get_or buffer at 0 ≡ 43 → ⊥) → (get_or buffer at 0 ≡ 45 → ⊥) → (get_or buffer at 0 ≡ 42 → ⊥) → (has : HasLeaf r level buffer at) →
    IsLeafInTwo has.leaf → ⊥
no_other_in_two r level buffer at not_36 not_58 not_43 not_45 not_42 has two = go has.leaf has.plain two has.whole
  where
    go : (l : Leaf) → IsPlainLeaf level l → IsLeafInTwo l → drop at buffer ≡ leaf_text l ++ has.rest → ⊥
    go (line Simple s) plain two e = not_43 (first_of_leaf (line Simple s) at buffer has.rest e)
    go (line Error s) plain two e = not_45 (first_of_leaf (line Error s) at buffer has.rest e)
    go (line Double s) plain two e = absurd two
    go (numeral Int Unsigned digits) plain two e = not_58 (first_of_leaf (numeral Int Unsigned digits) at buffer has.rest e)
    go (numeral Int Plus digits) plain two e = absurd plain
    go (numeral Int Minus digits) plain two e = not_58 (first_of_leaf (numeral Int Minus digits) at buffer has.rest e)
    go (numeral Big sign digits) plain two e = absurd plain
    go (null BulkNull) plain two e = not_36 (first_of_leaf (null BulkNull) at buffer has.rest e)
    go (null ArrayNull) plain two e = not_42 (first_of_leaf (null ArrayNull) at buffer has.rest e)
    go (null PlainNull) plain two e = absurd two
    go (truth true) plain two e = absurd two
    go (truth false) plain two e = absurd two
    go (string Bulk digits s) plain two e = not_36 (first_of_leaf (string Bulk digits s) at buffer has.rest e)
    go (string BulkError digits s) plain two e = absurd two
    go (string (Verbatim format) digits s) plain two e = absurd two
    go (chunked chunks zeros) plain two e = absurd plain

-- the other leaves begin with these bytes
pub no_other_in_three : (r : Rules) (level : ℕ) (buffer : List ℕ) (at : ℕ) → (get_or buffer at 0 ≡ 95 → ⊥) → (get_or buffer at 0 ≡ 35 → ⊥) →
    (get_or buffer at 0 ≡ 44 → ⊥) → (get_or buffer at 0 ≡ 33 → ⊥) → (get_or buffer at 0 ≡ 61 → ⊥) → (has : HasLeaf r level buffer at) →
    (IsLeafInTwo has.leaf → ⊥) → ⊥
no_other_in_three r level buffer at not_95 not_35 not_44 not_33 not_61 has two = go has.leaf has.plain two has.whole
  where
    go : (l : Leaf) → IsPlainLeaf level l → (IsLeafInTwo l → ⊥) → drop at buffer ≡ leaf_text l ++ has.rest → ⊥
    go (line Simple s) plain two e = absurd (two tt)
    go (line Error s) plain two e = absurd (two tt)
    go (line Double s) plain two e = not_44 (first_of_leaf (line Double s) at buffer has.rest e)
    go (numeral Int Unsigned digits) plain two e = absurd (two tt)
    go (numeral Int Plus digits) plain two e = absurd plain
    go (numeral Int Minus digits) plain two e = absurd (two tt)
    go (numeral Big sign digits) plain two e = absurd plain
    go (null BulkNull) plain two e = absurd (two tt)
    go (null ArrayNull) plain two e = absurd (two tt)
    go (null PlainNull) plain two e = not_95 (first_of_leaf (null PlainNull) at buffer has.rest e)
    go (truth true) plain two e = not_35 (first_of_leaf (truth true) at buffer has.rest e)
    go (truth false) plain two e = not_35 (first_of_leaf (truth false) at buffer has.rest e)
    go (string Bulk digits s) plain two e = absurd (two tt)
    go (string BulkError digits s) plain two e = not_33 (first_of_leaf (string BulkError digits s) at buffer has.rest e)
    go (string (Verbatim format) digits s) plain two e = not_61 (first_of_leaf (string (Verbatim format) digits s) at buffer has.rest e)
    go (chunked chunks zeros) plain two e = absurd plain
