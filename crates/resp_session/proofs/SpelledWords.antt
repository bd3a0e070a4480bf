-- The words of a command that is spelled within the limits.
use Rattle.std.proofs.Common.{◌≡◌, ℕ, ◌≤◌, List, [], ◌∷◌, ◌++◌, length, map, refl, subst, arith, length-append}
use Rattle.std.specs.List.{AllByRecursion}
use Rattle.resp_value.specs.Bounds.{Bounds}
use Rattle.resp_value.specs.Bytes.{IsText, crlf}
use Rattle.resp_value.specs.Canonical.{canonical_text}
use Rattle.resp_value.specs.Data.{Kind, Array, Datum, Data, scalar, aggregate, data_of_list, items_of, longest, longest_among, most_items}
use Rattle.resp_value.specs.Data as d
use Rattle.resp_value.specs.Numbers.{number, decimal}
use Rattle.resp_value.specs.Rules.{InVersion, WithinLength, WithinItems, WithinTotal, Every, EveryOf, IsLeafInTwo, IsNodeInTwo, HasVersion}
use Rattle.resp_value.specs.Spellings.{IsSpelling}
use Rattle.resp_value.specs.TreeValues.{value, values}
use Rattle.resp_value.specs.Trees.{Tree, Trees, leaf, node, none, more, line, numeral, null, truth, string, chunked, Simple, Error, Double, Int, Big, Bulk, BulkError, Verbatim, kind_byte, form_line, close, text, texts, IsTree, AreTrees}
use Rattle.resp_value.specs.Words.{word_datum, command_of}
use Rattle.resp_value.specs.declared.version.Version.TheVariants.{Two}
use Rattle.resp_session.specs.Answers.{server_rules}
use Rattle.resp_session.specs.Fitting.{FitsBulk}
use Rattle.resp_session.proofs.DigitCounts.{decimal_is_shortest}

-- a word as it is spelled: bytes, and no shorter than as it is written
abbrev IsSpelled : List ℕ → List ℕ → Type 0
IsSpelled word spelled = IsText word × (length (canonical_text Two (word_datum word)) ≤ length spelled)

bulk_spelled : (digits word : List ℕ) → IsTree (leaf (string Bulk digits word)) → IsSpelled word (text (leaf (string Bulk digits word)))
bulk_spelled digits word h =
    let shortest = decimal_is_shortest digits h.0.0 in
    let says : number digits ≡ length word = h.0.1 in
    let fewer : length (decimal (length word)) ≤ length digits = subst (λ n. length (decimal n) ≤ length digits) says shortest in (
      h.2,
      omega (arith, fewer, length-append (decimal (length word)) (crlf (word ++ crlf [])), length-append digits (crlf (word ++ crlf []))),
    )

-- a tree of version 2 with a bulk string's value spells it
word_spelled : (t : Tree) (word : List ℕ) → IsTree t → Every IsLeafInTwo IsNodeInTwo t → value t ≡ word_datum word → IsSpelled word (text t)
word_spelled (leaf (line Simple s)) word h two e = absurd (cc)
word_spelled (leaf (line Error s)) word h two e = absurd (cc)
word_spelled (leaf (line Double s)) word h two e = absurd (cc)
word_spelled (leaf (numeral Int sign digits)) word h two e = absurd (cc)
word_spelled (leaf (numeral Big sign digits)) word h two e = absurd (cc)
word_spelled (leaf (null form)) word h two e = absurd (cc)
word_spelled (leaf (truth b)) word h two e = absurd (cc)
word_spelled (leaf (string Bulk digits s)) word h two e =
    let same : s ≡ word = cc in
    subst (λ w. IsSpelled w (text (leaf (string Bulk digits s)))) same (bulk_spelled digits s h)
word_spelled (leaf (string BulkError digits s)) word h two e = absurd (cc)
word_spelled (leaf (string (Verbatim format) digits s)) word h two e = absurd (cc)
word_spelled (leaf (chunked chunks zeros)) word h two e = absurd two
word_spelled (node k form ts) word h two e = absurd (cc)

-- the word is within these limits
fits_bulk : (limits : Bounds) (word : List ℕ) → IsText word → length word ≤ limits.length →
    length (canonical_text Two (word_datum word)) ≤ limits.total → FitsBulk limits word
fits_bulk limits word bytes short within = (
  bytes,
  record {
    allows_doubles = λ off. tt;
    has_types = tt;
    push_at_top = tt;
    within_depth = omega arith;
    within_length = short;
    within_items = omega arith;
    within_total = within;
  },
)

words_fit : (limits : Bounds) (ts : Trees) (words : List (List ℕ)) → AreTrees ts → EveryOf IsLeafInTwo IsNodeInTwo ts →
    values ts ≡ data_of_list (map word_datum words) → longest_among (data_of_list (map word_datum words)) ≤ limits.length →
    length (texts ts) ≤ limits.total → AllByRecursion (FitsBulk limits) words
words_fit limits none [] h two e short within = tt
words_fit limits none (word ∷ words) h two e short within = absurd (cc)
words_fit limits (more t ts) [] h two e short within = absurd (cc)
words_fit limits (more t ts) (word ∷ words) h two e short within =
    let first : value t ≡ word_datum word = cc in
    let others : values ts ≡ data_of_list (map word_datum words) = cc in
    let (bytes, spelled) = word_spelled t word h.0 two.0 first in
    let both = length-append (text t) (texts ts) in (
      fits_bulk limits word bytes (omega (arith, short)) (omega (arith, spelled, both, within)),
      words_fit limits ts words h.1 two.1 others (omega (arith, short)) (omega (arith, both, within)),
    )

count_of_words : (words : List (List ℕ)) → d.count (data_of_list (map word_datum words)) ≡ length words
count_of_words [] = refl
count_of_words (word ∷ words) = let h = count_of_words words in omega (arith, h)

-- each word is within the limits, and so is their number
abbrev pub AreWithin : Bounds → List (List ℕ) → Type 0
AreWithin limits words = AllByRecursion (FitsBulk limits) words × (length words ≤ limits.items)

tree_within : (limits : Bounds) (t : Tree) (words : List (List ℕ)) → IsTree t → HasVersion Two t → longest (value t) ≤ limits.length →
    most_items (value t) ≤ limits.items → length (text t) ≤ limits.total → value t ≡ command_of words → AreWithin limits words
tree_within limits (leaf l) words h two short few within e = absurd (cc)
tree_within limits (node k form ts) words h two short few within e =
    let others : values ts ≡ data_of_list (map word_datum words) = cc in
    let short_words : longest (command_of words) ≤ limits.length = subst (λ x. longest x ≤ limits.length) e short in
    let few_words : most_items (command_of words) ≤ limits.items = subst (λ x. most_items x ≤ limits.items) e few in
    let head = length-append (kind_byte k ∷ form_line form) (crlf (texts ts ++ close form)) in
    let beyond = length-append (texts ts) (close form) in (
      words_fit limits ts words h.1 two.1 others short_words (omega (arith, within, head, beyond)),
      omega (arith, few_words, count_of_words words),
    )

-- the words of a command that is spelled within the limits are within them
pub spelled_words_fit : (limits : Bounds) (words : List (List ℕ)) (written : List ℕ) → IsSpelling (server_rules limits) (command_of words) written →
    AreWithin limits words
spelled_words_fit limits words written s =
    tree_within limits s.tree words s.spells.is_tree (s.keeps InVersion (omega arith))
    (s.keeps WithinLength (omega arith)) (s.keeps WithinItems (omega arith)) (s.keeps WithinTotal (omega arith)) s.valued
