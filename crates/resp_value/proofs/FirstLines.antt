-- What a first line says: it tells which leaf or aggregate it begins.
use Rattle.std.proofs.Common.{◌≡◌, ℕ, Bool, true, false, cond, eqb, List, [], ◌∷◌, ◌++◌, refl, sym, ap, ◌∙◌, arith, append_assoc}
use Rattle.resp_value.specs.Bytes.{IsLine, crlf}
use Rattle.resp_value.specs.Numbers.{IsDigits, Sign, Unsigned, Plus, Minus, sign_text}
use Rattle.resp_value.specs.Data.{Kind, Array, Set, Map, Attr, Push}
use Rattle.resp_value.specs.Trees.{Tree, leaf, node, Leaf, line, numeral, null, truth, string, chunked, LineKind, Simple, Error, Double, NumberKind, Int, Big, NullForm, BulkNull, ArrayNull, PlainNull, Bulk, BulkError, Verbatim, Form, Counted, Streamed, text, texts, close, leaf_line, leaf_rest, line_byte, number_byte, null_line, truth_line, string_byte, kind_byte, form_line, IsTree, IsLeaf}
use Rattle.resp_value.proofs.FirstBytes.{first_byte_above}
use Rattle.resp_value.proofs.Splitting.{line_split, line_from_digits, plain_above, digit_is_no, digit_is_no_mark}

-- what the first line of a leaf says of it
pub data LeafSort : Type 0 where
  line_sort : LineKind → List ℕ → LeafSort
  numeral_sort : NumberKind → Sign → List ℕ → LeafSort
  null_sort : NullForm → LeafSort
  truth_sort : Bool → LeafSort
  -- the type byte, and the digits of the length
  string_sort : ℕ → List ℕ → LeafSort
  chunked_sort : LeafSort

-- what a first line says
pub data Sort : Type 0 where
  leaf_of : LeafSort → Sort
  node_of : Kind → Form → Sort
  no_sort : Sort

abbrev pub form_of : List ℕ → Form
form_of [] = Counted []
form_of (c ∷ cs) = cond (eqb c 63) Streamed (Counted (c ∷ cs))

abbrev pub sort_after_dollar : List ℕ → Sort
sort_after_dollar [] = no_sort
sort_after_dollar (c ∷ cs) = cond (eqb c 45) (leaf_of (null_sort BulkNull)) (cond (eqb c 63) (leaf_of chunked_sort) (leaf_of (string_sort 36 (c ∷ cs))))

abbrev pub sort_after_star : List ℕ → Sort
sort_after_star [] = no_sort
sort_after_star (c ∷ cs) = cond (eqb c 45) (leaf_of (null_sort ArrayNull)) (node_of Array (form_of (c ∷ cs)))

abbrev pub sort_of_numeral : NumberKind → List ℕ → Sort
sort_of_numeral k [] = no_sort
sort_of_numeral k (c ∷ cs) = cond (eqb c 43) (leaf_of (numeral_sort k Plus cs))
    (cond (eqb c 45) (leaf_of (numeral_sort k Minus cs)) (leaf_of (numeral_sort k Unsigned (c ∷ cs))))

abbrev pub sort_of_truth : List ℕ → Sort
sort_of_truth [] = no_sort
sort_of_truth (c ∷ cs) = leaf_of (truth_sort (eqb c 116))

-- what a type byte and the rest of its line say
abbrev pub sort_after : ℕ → List ℕ → Sort
sort_after c cs =
    cond (eqb c 43) (leaf_of (line_sort Simple cs))
    (cond (eqb c 45) (leaf_of (line_sort Error cs))
    (cond (eqb c 44) (leaf_of (line_sort Double cs))
    (cond (eqb c 58) (sort_of_numeral Int cs)
    (cond (eqb c 40) (sort_of_numeral Big cs)
    (cond (eqb c 95) (leaf_of (null_sort PlainNull))
    (cond (eqb c 35) (sort_of_truth cs)
    (cond (eqb c 36) (sort_after_dollar cs)
    (cond (eqb c 33) (leaf_of (string_sort 33 cs))
    (cond (eqb c 61) (leaf_of (string_sort 61 cs))
    (cond (eqb c 42) (sort_after_star cs)
    (cond (eqb c 126) (node_of Set (form_of cs))
    (cond (eqb c 37) (node_of Map (form_of cs))
    (cond (eqb c 124) (node_of Attr (form_of cs))
    (cond (eqb c 62) (node_of Push (form_of cs)) no_sort))))))))))))))

-- what a first line says, read off its bytes
abbrev pub sort : List ℕ → Sort
sort [] = no_sort
sort (c ∷ cs) = sort_after c cs

abbrev pub leaf_sort : Leaf → LeafSort
leaf_sort (line k s) = line_sort k s
leaf_sort (numeral k sign digits) = numeral_sort k sign digits
leaf_sort (null form) = null_sort form
leaf_sort (truth b) = truth_sort b
leaf_sort (string k digits s) = string_sort (string_byte k) digits
leaf_sort (chunked chunks zeros) = chunked_sort

-- what the first line of a tree is to say
abbrev pub sort_of : Tree → Sort
sort_of (leaf l) = leaf_of (leaf_sort l)
sort_of (node k form ts) = node_of k form

sort_of_numeral_is : (k : NumberKind) (sign : Sign) (digits : List ℕ) → IsDigits digits → sort_of_numeral k (sign_text sign ++ digits) ≡
    leaf_of (numeral_sort k sign digits)
sort_of_numeral_is k Plus digits p = refl
sort_of_numeral_is k Minus digits p = refl
sort_of_numeral_is k Unsigned [] p = absurd (omega arith)
sort_of_numeral_is k Unsigned (d ∷ ds) p = rw (digit_is_no d 43 p.1.0 (omega arith), digit_is_no d 45 p.1.0 (omega arith))

sort_after_dollar_is : (digits : List ℕ) → IsDigits digits → sort_after_dollar digits ≡ leaf_of (string_sort 36 digits)
sort_after_dollar_is [] p = absurd (omega arith)
sort_after_dollar_is (d ∷ ds) p = rw (digit_is_no d 45 p.1.0 (omega arith), digit_is_no_mark d p.1.0)

sort_after_star_is : (digits : List ℕ) → IsDigits digits → sort_after_star digits ≡ node_of Array (Counted digits)
sort_after_star_is [] p = absurd (omega arith)
sort_after_star_is (d ∷ ds) p = rw (digit_is_no d 45 p.1.0 (omega arith), digit_is_no_mark d p.1.0)

form_is : (digits : List ℕ) → IsDigits digits → form_of digits ≡ Counted digits
form_is [] p = refl
form_is (d ∷ ds) p = rw (digit_is_no_mark d p.1.0)

leaf_sort_is : (l : Leaf) → IsLeaf l → sort (leaf_line l) ≡ leaf_of (leaf_sort l)
leaf_sort_is (line Simple s) p = refl
leaf_sort_is (line Error s) p = refl
leaf_sort_is (line Double s) p = refl
leaf_sort_is (numeral Int sign digits) p = sort_of_numeral_is Int sign digits p
leaf_sort_is (numeral Big sign digits) p = sort_of_numeral_is Big sign digits p
leaf_sort_is (null BulkNull) p = refl
leaf_sort_is (null ArrayNull) p = refl
leaf_sort_is (null PlainNull) p = refl
leaf_sort_is (truth true) p = refl
leaf_sort_is (truth false) p = refl
leaf_sort_is (string Bulk digits s) p = sort_after_dollar_is digits p.0.0
leaf_sort_is (string BulkError digits s) p = refl
leaf_sort_is (string (Verbatim format) digits s) p = refl
leaf_sort_is (chunked chunks zeros) p = refl

-- the first line of a tree, without its CR LF
unfoldable pub first_line : Tree → List ℕ
first_line (leaf l) = leaf_line l
first_line (node k form ts) = kind_byte k ∷ form_line form

-- the first line of a tree says what it begins
pub sort_is : (t : Tree) → IsTree t → sort (first_line t) ≡ sort_of t
unfolding first_line
sort_is (leaf l) p = leaf_sort_is l p
sort_is (node Array (Counted digits) ts) p = sort_after_star_is digits p.0.0
sort_is (node Set (Counted digits) ts) p = ap (node_of Set) (form_is digits p.0.0)
sort_is (node Map (Counted digits) ts) p = ap (node_of Map) (form_is digits p.0.0)
sort_is (node Attr (Counted digits) ts) p = ap (node_of Attr) (form_is digits p.0.0)
sort_is (node Push (Counted digits) ts) p = ap (node_of Push) (form_is digits p.0.0)
sort_is (node Array Streamed ts) p = refl
sort_is (node Set Streamed ts) p = refl
sort_is (node Map Streamed ts) p = refl
sort_is (node Attr Streamed ts) p = refl
sort_is (node Push Streamed ts) p = refl

-- the sort of a tree is that of its first line
pub sort_of-line : (t : Tree) {line : List ℕ} → IsTree t → first_line t ≡ line → sort_of t ≡ sort line
sort_of-line t p e = sym (sort_is t p) ∙ ap sort e

-- what follows the first line and its CR LF
abbrev pub after_line : Tree → List ℕ
after_line (leaf l) = leaf_rest l
after_line (node k form ts) = texts ts ++ close form

-- a tree's text is its first line and what follows
pub text_is : (t : Tree) (x : List ℕ) → text t ++ x ≡ first_line t ++ crlf (after_line t ++ x)
unfolding first_line
text_is (leaf l) x = append_assoc (leaf_line l) (crlf (leaf_rest l)) x
text_is (node k form ts) x = append_assoc (kind_byte k ∷ form_line form) (crlf (texts ts ++ close form)) x

sign_line : (sign : Sign) (digits : List ℕ) → IsDigits digits → IsLine (sign_text sign ++ digits)
sign_line Unsigned digits p = line_from_digits digits p
sign_line Plus digits p = (plain_above 43 (omega arith), line_from_digits digits p)
sign_line Minus digits p = (plain_above 45 (omega arith), line_from_digits digits p)

-- the lines of nulls have no CR or LF in them
pub null_is_line : (form : NullForm) → IsLine (null_line form)
null_is_line BulkNull = (plain_above 36 (omega arith), (plain_above 45 (omega arith), (plain_above 49 (omega arith), tt)))
null_is_line ArrayNull = (plain_above 42 (omega arith), (plain_above 45 (omega arith), (plain_above 49 (omega arith), tt)))
null_is_line PlainNull = (plain_above 95 (omega arith), tt)

truth_is_line : (b : Bool) → IsLine (truth_line b)
truth_is_line true = (plain_above 35 (omega arith), (plain_above 116 (omega arith), tt))
truth_is_line false = (plain_above 35 (omega arith), (plain_above 102 (omega arith), tt))

leaf_is_line : (l : Leaf) → IsLeaf l → IsLine (leaf_line l)
leaf_is_line (line k s) p = (plain_above (line_byte k) (first_byte_above (leaf (line k s))), p.0)
leaf_is_line (numeral k sign digits) p = (plain_above (number_byte k) (first_byte_above (leaf (numeral k sign digits))), sign_line sign digits p)
leaf_is_line (null form) p = null_is_line form
leaf_is_line (truth b) p = truth_is_line b
leaf_is_line (string k digits s) p = (plain_above (string_byte k) (first_byte_above (leaf (string k digits s))), line_from_digits digits p.0.0)
leaf_is_line (chunked chunks zeros) p = (plain_above 36 (omega arith), (plain_above 63 (omega arith), tt))

-- a tree's first line has no CR or LF in it
pub first_is_line : (t : Tree) → IsTree t → IsLine (first_line t)
unfolding first_line
first_is_line (leaf l) p = leaf_is_line l p
first_is_line (node k (Counted digits) ts) p = (plain_above (kind_byte k) (first_byte_above (node k (Counted digits) ts)), line_from_digits digits p.0.0)
first_is_line (node k Streamed ts) p = (plain_above (kind_byte k) (first_byte_above (node k Streamed ts)), (plain_above 63 (omega arith), tt))

-- a text's bytes up to its first CR LF decide what tree it can be of
pub line_decides : (t : Tree) (first rest x : List ℕ) → IsTree t → IsLine first → text t ++ x ≡ first ++ crlf rest →
    (first_line t ≡ first) × (sort first ≡ sort_of t) × (after_line t ++ x ≡ rest)
line_decides t first rest x p no_break e =
    let split = line_split (first_line t) first (after_line t ++ x) rest (first_is_line t p) no_break (sym (text_is t x) ∙ e) in
    (split.0, sym (ap sort split.0) ∙ sort_is t p, split.1)
