-- What was read can be written: it fits the rules but for total, and its canonical text is no longer than a counted one.
use Rattle.std.proofs.Common.{◌≡◌, ◌≢◌, ◌⊎◌, inl, inr, ℕ, zero, suc, ◌+◌, ◌-◌, ◌^◌, ◌<◌, ◌≤◌, Bool, true, false, cond, eqb, List, [], ◌∷◌, ◌++◌, length, map, pos, neg_ℤ, refl, sym, ap, subst, ◌∙◌, arith, length-append}
use Rattle.std.specs.List.{AllByRecursion}
use Rattle.std.specs.Int.Digits.{AllBelowBase, digits_of}
use Rattle.std.proofs.lemmas.Int.Digits.{length-digits_of-le, number_lt}
use Rattle.std.proofs.lemmas.List.{length-map}
use Rattle.std.proofs.lemmas.Bool.Decides.{eqb_tells}
use Rattle.resp_value.specs.Bytes.{IsText, crlf}
use Rattle.resp_value.specs.Numbers.{IsDigit, IsDigits, IsNumber, IsKept, Sign, Unsigned, Plus, Minus, decimal, is_below_zero, is_minus, kept_digits, number, sign_text, signed_value, significant_digits, zero_if_none}
use Rattle.resp_value.specs.Data.{Kind, Array, Set, Map, Attr, Push, Datum, Data, scalar, aggregate, depth, items_of, longest, members_of, most_items}
use Rattle.resp_value.specs.Data as d
use Rattle.resp_value.specs.Trees.{Tree, Trees, leaf, node, none, more, Leaf, line, numeral, null, truth, string, chunked, Simple, Error, Double, Int, Big, BulkNull, ArrayNull, PlainNull, Bulk, BulkError, Verbatim, Form, Counted, Streamed, Chunk, IsChunk, text, texts, count, joined_content, leaf_text, IsTree, AreTrees, IsLeaf, HasMembers}
use Rattle.resp_value.specs.TreeValues.{value, values, leaf_value}
use Rattle.resp_value.specs.Rules.{NoDouble, InVersion, PushAtTop, InRange, NotStreamed, WithinDepth, WithinLength, WithinItems, WithinTotal, Every, EveryOf, HasPushAtRoot, HasVersion, IsAnyLeaf, IsAnyNode, IsCountedLeaf, IsCountedNode, IsInRange, IsLeafInTwo, IsNodeInTwo, IsNoPush}
use Rattle.resp_value.specs.Canonical.{AllowsDoubles, AreInTwo, AreValues, HasPushAtTop, HasNoPush, HasTypes, HaveNoPush, IsInTwo, IsKindInTwo, IsKindBelow, IsScalarInTwo, IsScalarValue, IsValue, IsWhole, canonical_leaf, canonical_text, canonical_trees, int_sign, int_size, sign_of}
use Rattle.resp_value.specs.Laws.{ACountedSpellingIsNoShorter, WhatWasReadCanBeWritten, WhatWasReadCountedCanBeWritten, WhatWasReadFitsButForTotal}
use Rattle.resp_value.specs.declared.version.Version.{Version}
use Rattle.resp_value.specs.declared.version.Version.TheVariants.{Two, Three}
use Rattle.resp_value.proofs.ByteLemmas.{bytes_append}
use Rattle.resp_value.proofs.DigitLemmas.{length-significant_digits}
use Rattle.resp_value.proofs.KeptDigits.{are_kept}
use Rattle.resp_value.proofs.KeptRules.{no_double_tree}
use Rattle.resp_value.proofs.SpellingLaws.{canonical_text_spells_what_fits}

-- The value of a tree is one of the program's.

joined_is_bytes : (chunks : List Chunk) → AllByRecursion IsChunk chunks → IsText (joined_content chunks)
joined_is_bytes [] all = tt
joined_is_bytes (c ∷ cs) all = bytes_append c.content (joined_content cs) all.0.2 (joined_is_bytes cs all.1)

big_is_kept : (sign : Sign) (digits : List ℕ) → IsDigits digits → IsKept (is_below_zero sign digits) (kept_digits digits)
big_is_kept sign digits h =
    let k = are_kept digits h.1 in
    (k.are_digits, k.same, λ z. ap (λ m. cond (eqb m 0) false (is_minus sign)) (sym k.same_number ∙ z))

leaf_is_value : (l : Leaf) → IsLeaf l → IsInRange l → IsScalarValue (leaf_value l)
leaf_is_value (line Simple s) is range = (is.0, is.1)
leaf_is_value (line Error s) is range = (is.0, is.1)
leaf_is_value (line Double s) is range = is
leaf_is_value (numeral Int sign digits) is range = range
leaf_is_value (numeral Big sign digits) is range = big_is_kept sign digits is
leaf_is_value (null form) is range = tt
leaf_is_value (truth b) is range = tt
leaf_is_value (string Bulk digits s) is range = is.2
leaf_is_value (string BulkError digits s) is range = is.2
leaf_is_value (string (Verbatim format) digits s) is range = (is.1.0, is.1.1, is.2)
leaf_is_value (chunked chunks zeros) is range = joined_is_bytes chunks is.0

count-values : (ts : Trees) → d.count (values ts) ≡ count ts
count-values none = refl
count-values (more t ts) = ap (λ n. n + 1) (count-values ts)

members_are_whole : (k : Kind) (form : Form) (n : ℕ) → HasMembers k form n → IsWhole k n
members_are_whole Array form n h = tt
members_are_whole Set form n h = tt
members_are_whole Push form n h = tt
members_are_whole Map (Counted digits) n h = omega (arith, h.1)
members_are_whole Map Streamed n h = omega (arith, h.1)
members_are_whole Attr (Counted digits) n h = omega (arith, h.1)
members_are_whole Attr Streamed n h = absurd h

mutual
  value_is : (t : Tree) → IsTree t → Every IsInRange IsAnyNode t → IsValue (value t)
  value_is (leaf l) is range = leaf_is_value l is range
  value_is (node k form ts) is range =
      (subst (IsWhole k) (sym (count-values ts)) (members_are_whole k form (count ts) is.0), values_are ts is.1 range.1)

  values_are : (ts : Trees) → AreTrees ts → EveryOf IsInRange IsAnyNode ts → AreValues (values ts)
  values_are none is range = tt
  values_are (more t ts) is range = (value_is t is.0 range.0, values_are ts is.1 range.1)

-- It fits the rules that the tree keeps.

leaf_in_two : (l : Leaf) → IsLeafInTwo l → IsScalarInTwo (leaf_value l)
leaf_in_two (line Simple s) h = tt
leaf_in_two (line Error s) h = tt
leaf_in_two (line Double s) h = absurd h
leaf_in_two (numeral Int sign digits) h = tt
leaf_in_two (numeral Big sign digits) h = absurd h
leaf_in_two (null form) h = tt
leaf_in_two (truth b) h = absurd h
leaf_in_two (string Bulk digits s) h = tt
leaf_in_two (string BulkError digits s) h = absurd h
leaf_in_two (string (Verbatim format) digits s) h = absurd h
leaf_in_two (chunked chunks zeros) h = absurd h

kind_in_two : (k : Kind) (form : Form) → IsNodeInTwo k form → IsKindInTwo k
kind_in_two Array form h = tt
kind_in_two Set form h = absurd h
kind_in_two Map form h = absurd h
kind_in_two Attr form h = absurd h
kind_in_two Push form h = absurd h

mutual
  value_in_two : (t : Tree) → Every IsLeafInTwo IsNodeInTwo t → IsInTwo (value t)
  value_in_two (leaf l) h = leaf_in_two l h
  value_in_two (node k form ts) h = (kind_in_two k form h.0, values_in_two ts h.1)

  values_in_two : (ts : Trees) → EveryOf IsLeafInTwo IsNodeInTwo ts → AreInTwo (values ts)
  values_in_two none h = tt
  values_in_two (more t ts) h = (value_in_two t h.0, values_in_two ts h.1)

has_types : (w : Version) (t : Tree) → HasVersion w t → HasTypes w (value t)
has_types Two t h = value_in_two t h
has_types Three t h = tt

kind_below : (k : Kind) (form : Form) → IsNoPush k form → IsKindBelow k
kind_below Array form h = tt
kind_below Set form h = tt
kind_below Map form h = tt
kind_below Attr form h = tt
kind_below Push form h = absurd h

mutual
  no_push : (t : Tree) → Every IsAnyLeaf IsNoPush t → HasNoPush (value t)
  no_push (leaf l) h = tt
  no_push (node k form ts) h = (kind_below k form h.0, no_pushes ts h.1)

  no_pushes : (ts : Trees) → EveryOf IsAnyLeaf IsNoPush ts → HaveNoPush (values ts)
  no_pushes none h = tt
  no_pushes (more t ts) h = (no_push t h.0, no_pushes ts h.1)

push_at_top : (t : Tree) → HasPushAtRoot t → HasPushAtTop (value t)
push_at_top (leaf l) h = tt
push_at_top (node k form ts) h = no_pushes ts h

pub what_was_read_fits_but_for_total : WhatWasReadFitsButForTotal
what_was_read_fits_but_for_total r x written s =
    let but_total : (y : Datum) → value s.tree ≡ y → IsValue y × AllowsDoubles r.limits y × HasTypes r.version y × HasPushAtTop y ×
    (depth y ≤ r.limits.depth) × (longest y ≤ r.limits.length) × (most_items y ≤ r.limits.items) =
    λ y e. subst (λ z. IsValue z × AllowsDoubles r.limits z × HasTypes r.version z × HasPushAtTop z × (depth z ≤ r.limits.depth) ×
    (longest z ≤ r.limits.length) × (most_items z ≤ r.limits.items)) e (
      value_is s.tree s.spells.is_tree (s.keeps InRange (omega arith)),
      (λ off. (no_double_tree s.tree).0 (s.keeps NoDouble (omega arith) off)),
      has_types r.version s.tree (s.keeps InVersion (omega arith)),
      push_at_top s.tree (s.keeps PushAtTop (omega arith)),
      s.keeps WithinDepth (omega arith),
      s.keeps WithinLength (omega arith),
      s.keeps WithinItems (omega arith),
    ) in
    but_total x s.valued

pub what_was_read_can_be_written : WhatWasReadCanBeWritten
what_was_read_can_be_written r x written s short =
    let w = what_was_read_fits_but_for_total r x written s in
    (canonical_text_spells_what_fits r x w.0).1 (record {
      allows_doubles = w.1;
      has_types = w.2;
      push_at_top = w.3;
      within_depth = w.4;
      within_length = w.5;
      within_items = w.6;
      within_total = short;
    })

-- Digits without leading zeros are the fewest.

below_base : (digits : List ℕ) → AllByRecursion IsDigit digits → AllBelowBase 10 (map (λ digit. digit - 48) digits)
below_base [] all = tt
below_base (digit ∷ digits) all = (omega (arith, all.0.0, all.0.1), below_base digits all.1)

fewest_digits : (n : ℕ) (digits : List ℕ) → IsNumber n digits → length (decimal n) ≤ length digits
fewest_digits n digits is = cases (eqb_tells n 0)
  where
    few : n < 10 ^ length digits
    few = subst (λ m. m < 10 ^ length digits) is.1 (subst (λ m. number digits < 10 ^ m) (length-map digits (λ digit. digit - 48))
        (number_lt 10 (map (λ digit. digit - 48) digits) (below_base digits is.0.1)))

    cases : ((eqb n 0 ≡ true) × (n ≡ 0)) ⊎ ((eqb n 0 ≡ false) × (n ≢ 0)) → length (decimal n) ≤ length digits
    cases (inl h) = rw h.0 (omega (arith, is.0.0))
    cases (inr h) = rw h.0 (omega (arith, length-map (digits_of 10 n) (λ digit. digit + 48), length-digits_of-le 10 (length digits) n (omega arith) few))

-- A leaf that isn't streamed is no shorter than the canonical one.

minus_digits : (n : ℕ) (digits : List ℕ) → IsNumber n digits →
    length (sign_text (int_sign (neg_ℤ (pos n))) ++ decimal (int_size (neg_ℤ (pos n)))) ≤ length digits + 1
minus_digits zero digits is = omega (arith, fewest_digits 0 digits is)
minus_digits (suc n) digits is = omega (arith, fewest_digits (n + 1) digits (is.0, is.1 ∙ omega arith))

fewest_signed : (sign : Sign) (digits : List ℕ) → IsDigits digits →
    length (sign_text (int_sign (signed_value sign digits)) ++ decimal (int_size (signed_value sign digits))) ≤ length (sign_text sign ++ digits)
fewest_signed Unsigned digits is = fewest_digits (number digits) digits (is, refl)
fewest_signed Plus digits is = omega (arith, fewest_digits (number digits) digits (is, refl))
fewest_signed Minus digits is = omega (arith, minus_digits (number digits) digits (is, refl))

kept_length : (digits : List ℕ) → 0 < length digits → length (kept_digits digits) ≤ length digits
kept_length digits full = cases (significant_digits digits) (length-significant_digits digits)
  where
    cases : (kept : List ℕ) → length kept ≤ length digits → length (zero_if_none kept) ≤ length digits
    cases [] h = omega (arith, full)
    cases (digit ∷ others) h = h

sign_length : (sign : Sign) (zero : Bool) → length (sign_text (sign_of (cond zero false (is_minus sign)))) ≤ length (sign_text sign)
sign_length Unsigned true = omega arith
sign_length Unsigned false = omega arith
sign_length Plus true = omega arith
sign_length Plus false = omega arith
sign_length Minus true = omega arith
sign_length Minus false = omega arith

leaf_no_shorter : (w : Version) (l : Leaf) → IsLeaf l → HasVersion w (leaf l) → IsCountedLeaf l →
    length (leaf_text (canonical_leaf w (leaf_value l))) ≤ length (leaf_text l)
leaf_no_shorter w (line Simple s) is has counted = omega arith
leaf_no_shorter w (line Error s) is has counted = omega arith
leaf_no_shorter w (line Double s) is has counted = omega arith
leaf_no_shorter w (numeral Int sign digits) is has counted =
    let one = sign_text (int_sign (signed_value sign digits)) ++ decimal (int_size (signed_value sign digits)) in
    omega (arith, fewest_signed sign digits is, length-append one (crlf []), length-append (sign_text sign ++ digits) (crlf []))
leaf_no_shorter w (numeral Big sign digits) is has counted =
    let one = sign_text (sign_of (is_below_zero sign digits)) in
    omega (
      arith,
      sign_length sign (eqb (number digits) 0),
      kept_length digits is.0,
      length-append one (kept_digits digits),
      length-append (one ++ kept_digits digits) (crlf []),
      length-append (sign_text sign) digits,
      length-append (sign_text sign ++ digits) (crlf []),
    )
leaf_no_shorter Two (null BulkNull) is has counted = omega arith
leaf_no_shorter Two (null ArrayNull) is has counted = omega arith
leaf_no_shorter Two (null PlainNull) is has counted = absurd has
leaf_no_shorter Three (null BulkNull) is has counted = omega arith
leaf_no_shorter Three (null ArrayNull) is has counted = omega arith
leaf_no_shorter Three (null PlainNull) is has counted = omega arith
leaf_no_shorter w (truth b) is has counted = omega arith
leaf_no_shorter w (string Bulk digits s) is has counted =
    let rest = crlf (s ++ crlf []) in
    omega (arith, fewest_digits (length s) digits is.0, length-append (decimal (length s)) rest, length-append digits rest)
leaf_no_shorter w (string BulkError digits s) is has counted =
    let rest = crlf (s ++ crlf []) in
    omega (arith, fewest_digits (length s) digits is.0, length-append (decimal (length s)) rest, length-append digits rest)
leaf_no_shorter w (string (Verbatim format) digits s) is has counted =
    let rest = crlf ((format ++ 58 ∷ s) ++ crlf []) in
    let same : length (format ++ 58 ∷ s) ≡ length s + 4 = omega (arith, length-append format (58 ∷ s), is.1.0) in
    omega (
      arith,
      fewest_digits (length s + 4) digits (subst (λ n. IsNumber n digits) same is.0),
      length-append (decimal (length s + 4)) rest,
      length-append digits rest,
    )
leaf_no_shorter w (chunked chunks zeros) is has counted = absurd counted

-- And so is a tree of such leaves.

-- the version has each of these
abbrev HaveVersion : Version → Trees → Type 0
HaveVersion Two ts = EveryOf IsLeafInTwo IsNodeInTwo ts
HaveVersion Three ts = Unit {0}

have_version : (w : Version) (k : Kind) (form : Form) (ts : Trees) → HasVersion w (node k form ts) → HaveVersion w ts
have_version Two k form ts h = h.1
have_version Three k form ts h = tt

first_has : (w : Version) (t : Tree) (ts : Trees) → HaveVersion w (more t ts) → HasVersion w t
first_has Two t ts h = h.0
first_has Three t ts h = tt

others_have : (w : Version) (t : Tree) (ts : Trees) → HaveVersion w (more t ts) → HaveVersion w ts
others_have Two t ts h = h.1
others_have Three t ts h = tt

items_are : (k : Kind) (digits : List ℕ) (n : ℕ) → members_of k (number digits) ≡ n → number digits ≡ items_of k n
items_are Array digits n h = h
items_are Set digits n h = h
items_are Map digits n h = omega (arith, h)
items_are Attr digits n h = omega (arith, h)
items_are Push digits n h = h

mutual
  no_shorter : (w : Version) (t : Tree) → IsTree t → HasVersion w t → Every IsCountedLeaf IsCountedNode t →
      length (canonical_text w (value t)) ≤ length (text t)
  no_shorter w (leaf l) is has counted = leaf_no_shorter w l is has counted
  no_shorter w (node k Streamed ts) is has counted = absurd counted.0
  no_shorter w (node k (Counted digits) ts) is has counted =
      let n = items_of k (d.count (values ts)) in
      let one = texts (canonical_trees w (values ts)) in
      let number_is : number digits ≡ n = items_are k digits (d.count (values ts)) (is.0.1 ∙ sym (count-values ts)) in
      omega (
        arith,
        fewest_digits n digits (is.0.0, number_is),
        none_shorter w ts is.1 (have_version w k (Counted digits) ts has) counted.1,
        length-append (decimal n) (crlf (one ++ [])),
        length-append one [],
        length-append digits (crlf (texts ts ++ [])),
        length-append (texts ts) [],
      )

  none_shorter : (w : Version) (ts : Trees) → AreTrees ts → HaveVersion w ts → EveryOf IsCountedLeaf IsCountedNode ts →
      length (texts (canonical_trees w (values ts))) ≤ length (texts ts)
  none_shorter w none is has counted = omega arith
  none_shorter w (more t ts) is has counted =
      omega (
        arith,
        no_shorter w t is.0 (first_has w t ts has) counted.0,
        none_shorter w ts is.1 (others_have w t ts has) counted.1,
        length-append (canonical_text w (value t)) (texts (canonical_trees w (values ts))),
        length-append (text t) (texts ts),
      )

pub a_counted_spelling_is_no_shorter : ACountedSpellingIsNoShorter
a_counted_spelling_is_no_shorter r t is keeps counted = no_shorter r.version t is (keeps InVersion (omega arith)) counted

pub what_was_read_counted_can_be_written : WhatWasReadCountedCanBeWritten
what_was_read_counted_can_be_written r x written off s =
    let shorter = a_counted_spelling_is_no_shorter r s.tree s.spells.is_tree s.keeps (s.keeps NotStreamed (omega arith) off) in
    what_was_read_can_be_written r x written s
    (subst (λ y. length (canonical_text r.version y) ≤ r.limits.total) s.valued (omega (arith, shorter, s.keeps WithinTotal (omega arith))))
