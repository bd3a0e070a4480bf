-- Worked examples.
use Rattle.std.proofs.Common.{◌≡◌, ℕ, ◌<◌, ◌≤◌, true, false, List, [], ◌∷◌, length, length-append, codes, pos, refl, sym, subst, arith}
use Rattle.std.proofs.lemmas.Int.{ints}
use Rattle.resp_value.specs.Bounds.{AreBounds}
use Rattle.resp_value.specs.Numbers.{Unsigned, Plus, Minus}
use Rattle.resp_value.specs.Data.{Datum, scalar, aggregate, Kind, Array, Set, Map, Attr, Push, members_of}
use Rattle.resp_value.specs.Data as d
use Rattle.resp_value.specs.Trees.{Tree, leaf, node, none, more, line, numeral, null, truth, string, chunked, Simple, Error, Double, Int, Big, BulkNull, ArrayNull, PlainNull, Bulk, BulkError, Verbatim, Counted, Streamed, Chunk, text, leaf_text, IsLeaf}
use Rattle.resp_value.specs.TreeValues.{value}
use Rattle.resp_value.specs.Rules.{Rules, Rule, Grammar, NoDouble, InVersion, PushAtTop, InRange, NotStreamed, WithinDepth, WithinLength, WithinItems, WithinTotal, Meets, Every, HasVersion, IsLeafInTwo, IsNodeInTwo, IsCountedLeaf, IsCountedNode}
use Rattle.resp_value.specs.Spellings.{IsSpelling}
use Rattle.resp_value.specs.Examples.{simple, IsSpelledInBoth, IsSpelledInThree, IsSpelledStreamed, IsSpelledWithDoubles}
use Rattle.resp_value.specs.DoubleStages.{completes}
use Rattle.resp_value.specs.declared.double_stage.DoubleStage.TheVariants.{Begun}
use Rattle.resp_value.proofs.Doubles.{completes_double, is_double_leaf}
use Rattle.resp_value.proofs.Splitting.{plain_above}
use Rattle.resp_value.proofs.ByTests.{bytes_by_test, digits_by_test}
use Rattle.resp_value.proofs.SmallTrees.{IsSmall, small_meets, small_leaf, small_node, one_digit, in_each_version, if_counted}

-- a small tree's text is a spelling of its value in the tree's version
small_spells : (r : Rules) (t : Tree) → AreBounds r.limits → IsSmall t → HasVersion r.version t → Meets r NotStreamed t → IsSpelling r (value t) (text t)
small_spells r t b s w f = record {
  tree = t;
  spells = record { is_tree = s.is_tree; spelled = refl };
  keeps = λ rule h. small_meets r t b s w f rule;
  valued =
      refl;
}

in_both : (t : Tree) → IsSmall t → Every IsLeafInTwo IsNodeInTwo t → Every IsCountedLeaf IsCountedNode t → IsSpelledInBoth (text t) (value t)
in_both t s w c r b = small_spells r t b s (in_each_version r.version t w) (if_counted r t c)

in_three : (t : Tree) → IsSmall t → Every IsCountedLeaf IsCountedNode t → IsSpelledInThree (text t) (value t)
in_three t s c r b is_three = small_spells r t b s (subst (λ w. HasVersion w t) (sym is_three) tt) (if_counted r t c)

streamed : (t : Tree) → IsSmall t → IsSpelledStreamed (text t) (value t)
streamed t s r b is_three on = small_spells r t b s (subst (λ w. HasVersion w t) (sym is_three) tt) (λ off. absurd (cc))

pub plus_and_zeros : IsSpelledInBoth (codes ":+007\r\n") (scalar (d.Int (pos 7)))
plus_and_zeros =
    let t = numeral Int Plus (codes "007") in
    in_both (leaf t) (small_leaf t (digits_by_test (codes "007") (omega arith) refl) tt (omega (arith, ints), omega (arith, ints)) (omega arith) (omega arith))
    tt tt

pub minus_zero : IsSpelledInBoth (codes ":-0\r\n") (scalar (d.Int (pos 0)))
minus_zero =
    let t = numeral Int Minus (codes "0") in
    in_both (leaf t) (small_leaf t (one_digit 48 (omega arith) (omega arith)) tt (omega (arith, ints), omega (arith, ints)) (omega arith) (omega arith)) tt tt

pub length_with_zero : IsSpelledInBoth (codes "$01\r\na\r\n") (scalar (d.Bulk (codes "a")))
length_with_zero =
    let t = string Bulk (codes "01") (codes "a") in
    in_both (leaf t) (small_leaf t ((digits_by_test (codes "01") (omega arith) refl, refl), tt, (omega arith, tt)) tt tt (omega arith) (omega arith)) tt tt

pub bulk_null : IsSpelledInBoth (codes "$-1\r\n") (scalar d.Null)
bulk_null = in_both (leaf (null BulkNull)) (small_leaf (null BulkNull) tt tt tt (omega arith) (omega arith)) tt tt

pub array_null : IsSpelledInBoth (codes "*-1\r\n") (scalar d.Null)
array_null = in_both (leaf (null ArrayNull)) (small_leaf (null ArrayNull) tt tt tt (omega arith) (omega arith)) tt tt

pub plain_null : IsSpelledInThree (codes "_\r\n") (scalar d.Null)
plain_null = in_three (leaf (null PlainNull)) (small_leaf (null PlainNull) tt tt tt (omega arith) (omega arith)) tt

pub error : IsSpelledInBoth (codes "-a\r\n") (scalar (d.Error (codes "a")))
error =
    let t = line Error (codes "a") in
    in_both (leaf t) (small_leaf t ((plain_above 97 (omega arith), tt), (omega arith, tt), tt) tt tt (omega arith) (omega arith)) tt tt

pub bulk_error : IsSpelledInThree (codes "!1\r\na\r\n") (scalar (d.BulkError (codes "a")))
bulk_error =
    let t = string BulkError (codes "1") (codes "a") in
    in_three (leaf t) (small_leaf t ((one_digit 49 (omega arith) (omega arith), refl), tt, (omega arith, tt)) tt tt (omega arith) (omega arith)) tt

pub big_minus_zero : IsSpelledInThree (codes "(-00\r\n") (scalar (d.Big false (codes "0")))
big_minus_zero =
    let t = numeral Big Minus (codes "00") in
    in_three (leaf t) (small_leaf t (digits_by_test (codes "00") (omega arith) refl) tt tt (omega arith) (omega arith)) tt

pub verbatim : IsSpelledInThree (codes "=6\r\ntxt:hi\r\n") (scalar (d.Verbatim (codes "txt") (codes "hi")))
verbatim =
    let t = string (Verbatim (codes "txt")) (codes "6") (codes "hi") in
    in_three (leaf t) (small_leaf t (
      (one_digit 54 (omega arith) (omega arith), refl),
      (refl, bytes_by_test (codes "txt") refl),
      (omega arith, (omega arith, tt)),
    ) tt tt (omega arith) (omega arith)) tt

pub chunks : IsSpelledStreamed (codes "$?\r\n;2\r\nab\r\n;1\r\nc\r\n;0\r\n") (scalar (d.Bulk (codes "abc")))
chunks =
    let two : Chunk = record { digits = codes "2"; content = codes "ab" } in
    let one : Chunk = record { digits = codes "1"; content = codes "c" } in
    let t = chunked (two ∷ one ∷ []) (codes "0") in
    streamed (leaf t) (small_leaf t (
      (
        ((one_digit 50 (omega arith) (omega arith), refl), omega arith, (omega arith, (omega arith, tt))),
        (((one_digit 49 (omega arith) (omega arith), refl), omega arith, (omega arith, tt)), tt),
      ),
      (one_digit 48 (omega arith) (omega arith), refl),
    ) tt tt
    (omega arith) (omega arith))

-- a simple string of one byte
pub simple_is_line : (byte : ℕ) → 13 < byte → byte < 256 → IsLeaf (line Simple (byte ∷ []))
simple_is_line byte above below = ((plain_above byte above, tt), (below, tt), tt)

pub streamed_map : IsSpelledStreamed (codes "%?\r\n+a\r\n:1\r\n.\r\n")
    (aggregate Map (d.more (scalar (d.Simple (codes "a"))) (d.more (scalar (d.Int (pos 1))) d.none)))
streamed_map =
    let ts = more (leaf (line Simple (codes "a"))) (more (leaf (numeral Int Unsigned (codes "1"))) none) in
    streamed (node Map Streamed ts) (small_node Map Streamed ts (
      (1, refl),
      (simple_is_line 97 (omega arith) (omega arith), (one_digit 49 (omega arith) (omega arith), tt)),
    ) (tt, (tt, tt)) (tt, (tt, tt))
    (tt, ((omega (arith, ints), omega (arith, ints)), tt)) (omega arith) (omega arith) (omega arith) (omega arith))

pub set : IsSpelledInThree (codes "~1\r\n#f\r\n") (aggregate Set (d.more (scalar (d.Bool false)) d.none))
set =
    let ts = more (leaf (truth false)) none in
    in_three (node Set (Counted (codes "1")) ts) (small_node Set (Counted (codes "1")) ts ((one_digit 49 (omega arith) (omega arith), refl), (tt, tt)) (tt, tt)
    (tt, tt) (tt, tt) (omega arith) (omega arith) (omega arith) (omega arith)) (tt, (tt, tt))

pub streamed_array : IsSpelledStreamed (codes "*?\r\n_\r\n.\r\n") (aggregate Array (d.more (scalar d.Null) d.none))
streamed_array =
    let ts = more (leaf (null PlainNull)) none in
    streamed (node Array Streamed ts) (small_node Array Streamed ts (tt, (tt, tt)) (tt, tt) (tt, tt) (tt, tt) (omega arith) (omega arith) (omega arith)
    (omega arith))

pub streamed_set : IsSpelledStreamed (codes "~?\r\n_\r\n.\r\n") (aggregate Set (d.more (scalar d.Null) d.none))
streamed_set =
    let ts = more (leaf (null PlainNull)) none in
    streamed (node Set Streamed ts) (small_node Set Streamed ts (tt, (tt, tt)) (tt, tt) (tt, tt) (tt, tt) (omega arith) (omega arith) (omega arith)
    (omega arith))

pub attribute : IsSpelledInThree (codes "*1\r\n|1\r\n+a\r\n:1\r\n+b\r\n")
    (aggregate Array (d.more (aggregate Attr (d.more (scalar (d.Simple (codes "a")))
    (d.more (scalar (d.Int (pos 1))) (d.more (scalar (d.Simple (codes "b"))) d.none)))) d.none))
attribute =
    let us = more (leaf (line Simple (codes "a"))) (more (leaf (numeral Int Unsigned (codes "1"))) (more (leaf (line Simple (codes "b"))) none)) in
    let ts = more (node Attr (Counted (codes "1")) us) none in
    let one = one_digit 49 (omega arith) (omega arith) in
    in_three (node Array (Counted (codes "1")) ts) (small_node Array (Counted (codes "1")) ts
    ((one, refl), (((one, refl), (simple_is_line 97 (omega arith) (omega arith), (one, (simple_is_line 98 (omega arith) (omega arith), tt)))), tt))
    ((tt, (tt, (tt, (tt, tt)))), tt) ((tt, (tt, (tt, (tt, tt)))), tt) ((tt, (tt, ((omega (arith, ints), omega (arith, ints)), (tt, tt)))), tt) (omega arith)
    (omega arith) (omega arith) (omega arith)) (tt, ((tt, (tt, (tt, (tt, tt)))), tt))

-- a simple string of one byte is spelled
pub small_line : (byte : ℕ) → 13 < byte → byte < 256 → IsSpelledInBoth (43 ∷ byte ∷ codes "\r\n") (simple (byte ∷ []))
small_line byte above below =
    let t = line Simple (byte ∷ []) in
    in_both (leaf t) (small_leaf t (simple_is_line byte above below) tt tt (omega arith) (omega arith)) tt tt

-- a double of few bytes is spelled where doubles are allowed
double_spells : (text : List ℕ) → IsLeaf (line Double text) → length text ≤ 64 → IsSpelledWithDoubles (leaf_text (line Double text)) (scalar (d.Double text))
double_spells text is short r b is_three allowed = record {
  tree = leaf (line Double text);
  spells = record { is_tree = is; spelled = refl };
  keeps = λ rule h. meets rule;
  valued = refl;
}
  where
    meets : (rule : Rule) → Meets r rule (leaf (line Double text))
    meets Grammar = tt
    meets NoDouble = λ off. absurd (cc)
    meets InVersion = subst (λ w. HasVersion w (leaf (line Double text))) (sym is_three) tt
    meets PushAtTop = tt
    meets InRange = tt
    meets NotStreamed = λ off. tt
    meets WithinDepth = omega arith
    meets WithinLength = let h : 64 ≤ r.limits.length = b.length_in_range.0 in omega arith
    meets WithinItems = omega arith
    meets WithinTotal =
        let h : 256 ≤ r.limits.total = b.total_in_range.0 in
        let whole = length-append (44 ∷ text) (codes "\r\n") in
        omega arith

-- a text that the stages read is a spelling of its double
spelled_double : (text : List ℕ) → completes Begun text ≡ true → length text ≤ 64 →
    IsSpelledWithDoubles (leaf_text (line Double text)) (scalar (d.Double text))
spelled_double text reads = double_spells text (is_double_leaf text (completes_double text reads))

pub double : IsSpelledWithDoubles (codes ",3.14\r\n") (scalar (d.Double (codes "3.14")))
double = spelled_double (codes "3.14") refl (omega arith)

pub exponent : IsSpelledWithDoubles (codes ",-1E+20\r\n") (scalar (d.Double (codes "-1E+20")))
exponent = spelled_double (codes "-1E+20") refl (omega arith)

pub infinity : IsSpelledWithDoubles (codes ",-inf\r\n") (scalar (d.Double (codes "-inf")))
infinity = spelled_double (codes "-inf") refl (omega arith)

pub negative_nan : IsSpelledWithDoubles (codes ",-nan\r\n") (scalar (d.Double (codes "-nan")))
negative_nan = spelled_double (codes "-nan") refl (omega arith)
