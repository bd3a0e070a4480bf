-- The byte that a tree's text begins with.
use Rattle.std.proofs.Common.{◌≡◌, ℕ, ◌<◌, true, false, List, [], ◌∷◌, ◌++◌, codes, refl, sym, ap, ◌∙◌, arith}
use Rattle.std.specs.List.{AllByRecursion}
use Rattle.resp_value.specs.Bytes.{IsByte, crlf}
use Rattle.resp_value.specs.Data.{Kind, Array, Set, Map, Attr, Push}
use Rattle.resp_value.specs.Trees.{Tree, leaf, node, Leaf, line, numeral, null, truth, string, chunked, Simple, Error, Double, Int, Big, NullForm, BulkNull, ArrayNull, PlainNull, Bulk, BulkError, Verbatim, text, leaf_line, leaf_rest, line_byte, number_byte, string_byte, kind_byte}
use Rattle.resp_value.specs.Rules.{Every, IsAnyNode, IsNoDouble, IsLeafInTwo, IsNodeInTwo}
use Rattle.resp_value.specs.Laws.{type_bytes, type_bytes_of}
use Rattle.resp_value.proofs.ByTests.{above_by_test, bytes_by_test, apart_by_test}
use Rattle.resp_value.specs.declared.version.Version.TheVariants.{Three}

abbrev null_byte : NullForm → ℕ
null_byte BulkNull = 36
null_byte ArrayNull = 42
null_byte PlainNull = 95

-- the type byte of a leaf
abbrev pub leaf_byte : Leaf → ℕ
leaf_byte (line k s) = line_byte k
leaf_byte (numeral k sign digits) = number_byte k
leaf_byte (null form) = null_byte form
leaf_byte (truth b) = 35
leaf_byte (string k digits s) = string_byte k
leaf_byte (chunked chunks zeros) = 36

-- the type byte of a tree
abbrev pub first_byte : Tree → ℕ
first_byte (leaf l) = leaf_byte l
first_byte (node k form ts) = kind_byte k

-- the byte that a text begins with, and 0 where it is empty
abbrev pub byte_at_start : List ℕ → ℕ
byte_at_start [] = 0
byte_at_start (c ∷ cs) = c

-- a leaf's first line begins with its type byte
pub leaf_begins : (l : Leaf) → (cs : List ℕ) × (leaf_line l ≡ leaf_byte l ∷ cs)
leaf_begins (line k s) = (s, refl)
leaf_begins (numeral k sign digits) = (_, refl)
leaf_begins (null BulkNull) = (_, refl)
leaf_begins (null ArrayNull) = (_, refl)
leaf_begins (null PlainNull) = (_, refl)
leaf_begins (truth true) = (_, refl)
leaf_begins (truth false) = (_, refl)
leaf_begins (string k digits s) = (_, refl)
leaf_begins (chunked chunks zeros) = (_, refl)

-- a tree's text begins with its type byte
pub begins : (t : Tree) → (cs : List ℕ) × (text t ≡ first_byte t ∷ cs)
begins (leaf l) = let (cs, e) = leaf_begins l in (cs ++ crlf (leaf_rest l), ap (λ z. z ++ crlf (leaf_rest l)) e)
begins (node k form ts) = (_, refl)

-- where a tree's text begins with a byte, this is the tree's type byte
pub first_byte_is : (t : Tree) (x r : List ℕ) (byte : ℕ) → text t ++ x ≡ byte ∷ r → first_byte t ≡ byte
first_byte_is t x r byte e = let (cs, h) = begins t in sym (ap (λ z. byte_at_start (z ++ x)) h) ∙ ap byte_at_start e

-- what holds of each of two lists holds of one after the other
pub all_append : (P : ℕ → Type 0) (a b : List ℕ) → AllByRecursion P a → AllByRecursion P b → AllByRecursion P (a ++ b)
all_append P [] b p q = q
all_append P (c ∷ a) b p q = (p.0, all_append P a b p.1 q)

-- what holds of each of a list holds of each of its front
pub all_front : (P : ℕ → Type 0) (a b : List ℕ) → AllByRecursion P (a ++ b) → AllByRecursion P a
all_front P [] b p = tt
all_front P (c ∷ a) b p = (p.0, all_front P a b p.1)

-- the first bytes of leaves that are no doubles
abbrev pub leaf_bytes : List ℕ
leaf_bytes = codes "+-:$*_#(!="

at_kind_byte : (P : ℕ → Type 0) → AllByRecursion P (type_bytes_of Three) → (k : Kind) → P (kind_byte k)
at_kind_byte P p Array = p.1.1.1.1.0
at_kind_byte P p Set = p.1.1.1.1.1.1.1.1.1.1.0
at_kind_byte P p Map = p.1.1.1.1.1.1.1.1.1.1.1.0
at_kind_byte P p Attr = p.1.1.1.1.1.1.1.1.1.1.1.1.0
at_kind_byte P p Push = p.1.1.1.1.1.1.1.1.1.1.1.1.1.0

-- what holds of each such byte holds of the first byte of a leaf that is no double
at_no_double : (P : ℕ → Type 0) → AllByRecursion P leaf_bytes → (l : Leaf) → IsNoDouble l → P (leaf_byte l)
at_no_double P p (line Simple s) h = p.0
at_no_double P p (line Error s) h = p.1.0
at_no_double P p (line Double s) h = absurd h
at_no_double P p (numeral Int sign digits) h = p.1.1.0
at_no_double P p (numeral Big sign digits) h = p.1.1.1.1.1.1.1.0
at_no_double P p (null BulkNull) h = p.1.1.1.0
at_no_double P p (null ArrayNull) h = p.1.1.1.1.0
at_no_double P p (null PlainNull) h = p.1.1.1.1.1.0
at_no_double P p (truth b) h = p.1.1.1.1.1.1.0
at_no_double P p (string Bulk digits s) h = p.1.1.1.0
at_no_double P p (string BulkError digits s) h = p.1.1.1.1.1.1.1.1.0
at_no_double P p (string (Verbatim format) digits s) h = p.1.1.1.1.1.1.1.1.1.0
at_no_double P p (chunked chunks zeros) h = p.1.1.1.0

-- what holds of each of these and of `,` holds of a leaf's first byte
pub at_leaf_byte : (P : ℕ → Type 0) → AllByRecursion P (codes "," ++ leaf_bytes) → (l : Leaf) → P (leaf_byte l)
at_leaf_byte P p (line Simple s) = p.1.0
at_leaf_byte P p (line Error s) = p.1.1.0
at_leaf_byte P p (line Double s) = p.0
at_leaf_byte P p (numeral k sign digits) = at_no_double P p.1 (numeral k sign digits) tt
at_leaf_byte P p (null form) = at_no_double P p.1 (null form) tt
at_leaf_byte P p (truth b) = at_no_double P p.1 (truth b) tt
at_leaf_byte P p (string k digits s) = at_no_double P p.1 (string k digits s) tt
at_leaf_byte P p (chunked chunks zeros) = at_no_double P p.1 (chunked chunks zeros) tt

-- what holds of each type byte and of `,` holds of a tree's first byte
pub at_first_byte : (P : ℕ → Type 0) → AllByRecursion P (codes "," ++ type_bytes_of Three) → (t : Tree) → P (first_byte t)
at_first_byte P p (leaf l) = at_leaf_byte P (p.0, all_front P leaf_bytes (codes "~%|>") p.1) l
at_first_byte P p (node k form ts) = at_kind_byte P p.1 k

-- what holds of each type byte holds of the first byte of a tree without doubles
pub at_first_byte_of_no_double : (P : ℕ → Type 0) → AllByRecursion P (type_bytes_of Three) → (t : Tree) → Every IsNoDouble IsAnyNode t → P (first_byte t)
at_first_byte_of_no_double P p (leaf l) h = at_no_double P (all_front P leaf_bytes (codes "~%|>") p) l h
at_first_byte_of_no_double P p (node k form ts) h = at_kind_byte P p k

-- what holds of each type byte of version 2 holds of the first byte of a tree of it
pub at_first_byte_of_two : (P : ℕ → Type 0) → AllByRecursion P type_bytes → (t : Tree) → Every IsLeafInTwo IsNodeInTwo t → P (first_byte t)
at_first_byte_of_two P p (leaf (line Simple s)) h = p.0
at_first_byte_of_two P p (leaf (line Error s)) h = p.1.0
at_first_byte_of_two P p (leaf (line Double s)) h = absurd h
at_first_byte_of_two P p (leaf (numeral Int sign digits)) h = p.1.1.0
at_first_byte_of_two P p (leaf (numeral Big sign digits)) h = absurd h
at_first_byte_of_two P p (leaf (null BulkNull)) h = p.1.1.1.0
at_first_byte_of_two P p (leaf (null ArrayNull)) h = p.1.1.1.1.0
at_first_byte_of_two P p (leaf (null PlainNull)) h = absurd h
at_first_byte_of_two P p (leaf (truth b)) h = absurd h
at_first_byte_of_two P p (leaf (string Bulk digits s)) h = p.1.1.1.0
at_first_byte_of_two P p (leaf (string BulkError digits s)) h = absurd h
at_first_byte_of_two P p (leaf (string (Verbatim format) digits s)) h = absurd h
at_first_byte_of_two P p (leaf (chunked chunks zeros)) h = absurd h
at_first_byte_of_two P p (node Array form ts) h = p.1.1.1.1.0
at_first_byte_of_two P p (node Set form ts) h = absurd h.0
at_first_byte_of_two P p (node Map form ts) h = absurd h.0
at_first_byte_of_two P p (node Attr form ts) h = absurd h.0
at_first_byte_of_two P p (node Push form ts) h = absurd h.0

-- a tree's first byte is above CR
pub first_byte_above : (t : Tree) → 13 < first_byte t
first_byte_above t = at_first_byte (λ b. 13 < b) (above_by_test (codes "," ++ type_bytes_of Three) refl) t

-- a tree's first byte is a byte
pub first_byte_is_byte : (t : Tree) → IsByte (first_byte t)
first_byte_is_byte t = at_first_byte IsByte (bytes_by_test (codes "," ++ type_bytes_of Three) refl) t

-- a leaf doesn't begin with `>`
pub leaf_is_no_push : (l : Leaf) → leaf_byte l ≡ 62 → ⊥
leaf_is_no_push l = at_leaf_byte (λ b. b ≡ 62 → ⊥) (apart_by_test 62 (codes "," ++ leaf_bytes) refl) l

-- a tree's first byte is no `.`, which closes an aggregate
pub no_stop : (t : Tree) → first_byte t ≡ 46 → ⊥
no_stop t = at_first_byte (λ b. b ≡ 46 → ⊥) (apart_by_test 46 (codes "," ++ type_bytes_of Three) refl) t

-- no two kinds have one type byte
pub kind_of_byte : (k j : Kind) → kind_byte k ≡ kind_byte j → k ≡ j
kind_of_byte Array Array e = refl
kind_of_byte Set Set e = refl
kind_of_byte Map Map e = refl
kind_of_byte Attr Attr e = refl
kind_of_byte Push Push e = refl
kind_of_byte _ _ e = absurd (omega arith)
