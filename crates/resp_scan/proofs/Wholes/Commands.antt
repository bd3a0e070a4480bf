-- Commands at the beginning of a text: their heads and words.
use Rattle.std.proofs.Common.{◌≡◌, ℕ, ◌+◌, ◌≤◌, List, [], ◌∷◌, ◌++◌, length, map, refl, sym, ap, subst, ◌∙◌, arith, append_assoc, append-nil, length-append}
use Rattle.resp_value.specs.Bounds.{Bounds, AreBounds}
use Rattle.resp_value.specs.Bytes.{IsByte, IsText, crlf}
use Rattle.resp_value.specs.Data.{Kind, Array, Set, Map, Attr, Push, Data, data_of_list, depth, greatest_depth, longest, longest_among, most_items, most_items_among}
use Rattle.resp_value.specs.Data as d
use Rattle.resp_value.specs.Rules.{Rule, Grammar, NoDouble, InVersion, PushAtTop, InRange, NotStreamed, WithinDepth, WithinLength, WithinItems, WithinTotal, EveryOf, IsAnyLeaf, IsAnyNode, IsNoDouble, IsNoPush, IsLeafInTwo, IsNodeInTwo, IsInRange, IsCountedLeaf, IsCountedNode, Keeps, Meets, rank, rules_under}
use Rattle.resp_value.specs.Trees.{Tree, Trees, leaf, node, none, more, Leaf, line, numeral, string, chunked, Simple, Error, Double, Int, Big, Bulk, BulkError, Verbatim, Form, Counted, Streamed, text, texts, count, IsTree, AreTrees}
use Rattle.resp_value.specs.TreeValues.{value, values}
use Rattle.resp_value.specs.Words.{word_datum, command_of}
use Rattle.resp_value.specs.declared.version.Version.TheVariants.{Two}
use Rattle.resp_value.proofs.FirstBytes.{all_front}
use Rattle.resp_value.proofs.LocalRuleLemmas.{count-values}
use Rattle.resp_scan.specs.Whole.{BeginsWith, BeginsWithHead, BeginsWithWord, BeginsWithWords}
use Rattle.resp_scan.proofs.Wholes.WordFronts.{one_head}

-- the head and the words of a command, within the limits
pub record IsCommand (limits : Bounds) (written : List ℕ) (words : List (List ℕ)) (rest : List ℕ) : Type 0 where
  pub body : List ℕ
  pub head : BeginsWithHead written 42 (length words) body
  pub begins : BeginsWithWords limits.length body words rest
  pub few : length words ≤ limits.items
  pub small : length written ≤ length rest + limits.total

-- the trees of words
abbrev word_trees : (most : ℕ) (body : List ℕ) (words : List (List ℕ)) (rest : List ℕ) → BeginsWithWords most body words rest → Trees
word_trees most body [] rest b = none
word_trees most body (word ∷ words) rest (next, first, others) = more (leaf (string Bulk first.digits word)) (word_trees most next words rest others)

-- a bulk string, other texts, and what follows them
string_on : (digits s others rest : List ℕ) →
    (((36 ∷ digits) ++ crlf (s ++ crlf [])) ++ others) ++ rest ≡ (36 ∷ digits) ++ crlf (s ++ crlf (others ++ rest))
string_on digits s others rest =
    append_assoc ((36 ∷ digits) ++ crlf (s ++ crlf [])) others rest ∙ append_assoc (36 ∷ digits) (crlf (s ++ crlf [])) (others ++ rest) ∙
    ap (λ l. (36 ∷ digits) ++ crlf l) (append_assoc s (crlf []) (others ++ rest))

-- a head, other texts, and what follows them
array_on : (digits others rest : List ℕ) → ((42 ∷ digits) ++ crlf (others ++ [])) ++ rest ≡ (42 ∷ digits) ++ crlf (others ++ rest)
array_on digits others rest = append_assoc (42 ∷ digits) (crlf (others ++ [])) rest ∙
    ap (λ l. (42 ∷ digits) ++ crlf (l ++ rest)) (append-nil others)

words_text : (most : ℕ) (body : List ℕ) (words : List (List ℕ)) (rest : List ℕ) (b : BeginsWithWords most body words rest) →
    body ≡ texts (word_trees most body words rest b) ++ rest
words_text most body [] rest b = b
words_text most body (word ∷ words) rest (next, first, others) =
    first.whole ∙ ap (λ l. (36 ∷ first.digits) ++ crlf (word ++ crlf l)) (words_text most next words rest others) ∙
    sym (string_on first.digits word (texts (word_trees most next words rest others)) rest)

words_every : (L : Leaf → Type 0) (N : Kind → Form → Type 0) → ((digits s : List ℕ) → L (string Bulk digits s)) → (most : ℕ) (body : List ℕ)
    (words : List (List ℕ)) (rest : List ℕ) (b : BeginsWithWords most body words rest) → EveryOf L N (word_trees most body words rest b)
words_every L N each most body [] rest b = tt
words_every L N each most body (word ∷ words) rest (next, first, others) =
    (each first.digits word, words_every L N each most next words rest others)

words_values : (most : ℕ) (body : List ℕ) (words : List (List ℕ)) (rest : List ℕ) (b : BeginsWithWords most body words rest) →
    values (word_trees most body words rest b) ≡ data_of_list (map word_datum words)
words_values most body [] rest b = refl
words_values most body (word ∷ words) rest (next, first, others) = ap (d.more (word_datum word)) (words_values most next words rest others)

words_count : (most : ℕ) (body : List ℕ) (words : List (List ℕ)) (rest : List ℕ) (b : BeginsWithWords most body words rest) →
    count (word_trees most body words rest b) ≡ length words
words_count most body [] rest b = refl
words_count most body (word ∷ words) rest (next, first, others) = let h = words_count most next words rest others in omega (arith, h)

-- what holds of each byte of two texts holds of each of the second
all_back : (a b : List ℕ) → IsText (a ++ b) → IsText b
all_back [] b h = h
all_back (x ∷ a) b h = all_back a b h.1

words_are_trees : (most : ℕ) (body : List ℕ) (words : List (List ℕ)) (rest : List ℕ) (b : BeginsWithWords most body words rest) → IsText body →
    AreTrees (word_trees most body words rest b)
words_are_trees most body [] rest b h = tt
words_are_trees most body (word ∷ words) rest (next, first, others) h =
    let content : IsText (word ++ crlf next) = all_back ((36 ∷ first.digits) ++ crlf []) (word ++ crlf next)
    (subst IsText (first.whole ∙ sym (append_assoc (36 ∷ first.digits) (crlf []) (word ++ crlf next))) h) in
    ((first.counted, tt, all_front IsByte word (crlf next) content), words_are_trees most next words rest others (all_back word (crlf next) content).1.1)

-- words are as long as the longest, and have no members
words_are_flat : (most : ℕ) (body : List ℕ) (words : List (List ℕ)) (rest : List ℕ) → BeginsWithWords most body words rest →
    let xs = data_of_list (map word_datum words) in
    (longest_among xs ≤ most) × (greatest_depth xs ≡ 0) × (most_items_among xs ≡ 0) × (d.count xs ≡ length words)
words_are_flat most body [] rest b = (omega arith, refl, refl, refl)
words_are_flat most body (word ∷ words) rest (next, first, others) =
    let (long, deep, wide, many) = words_are_flat most next words rest others in
    let short = first.short in
    (omega (arith, short, long), omega (arith, deep), omega (arith, wide), omega (arith, many))

-- a command of few short words is within the limits
command_keeps : (limits : Bounds) → AreBounds limits → (digits : List ℕ) (ts : Trees) (words : List (List ℕ)) →
    value (node Array (Counted digits) ts) ≡ command_of words →
    ((L : Leaf → Type 0) (N : Kind → Form → Type 0) → ((digits s : List ℕ) → L (string Bulk digits s)) → EveryOf L N ts) →
    greatest_depth (data_of_list (map word_datum words)) ≡ 0 → longest_among (data_of_list (map word_datum words)) ≤ limits.length →
    most_items_among (data_of_list (map word_datum words)) ≡ 0 → d.count (data_of_list (map word_datum words)) ≡ length words →
    length words ≤ limits.items → length (text (node Array (Counted digits) ts)) ≤ limits.total →
    Keeps (rules_under Two limits) WithinTotal (node Array (Counted digits) ts)
command_keeps limits bounds digits ts words is every deep long wide many few small = keeps
  where
    keeps : (earlier : Rule) → rank earlier ≤ 9 → Meets (rules_under Two limits) earlier (node Array (Counted digits) ts)
    keeps Grammar h = tt
    keeps NoDouble h = λ off. (tt, every IsNoDouble IsAnyNode (λ digits s. tt))
    keeps InVersion h = (tt, every IsLeafInTwo IsNodeInTwo (λ digits s. tt))
    keeps PushAtTop h = every IsAnyLeaf IsNoPush (λ digits s. tt)
    keeps InRange h = (tt, every IsInRange IsAnyNode (λ digits s. tt))
    keeps NotStreamed h = λ off. (tt, every IsCountedLeaf IsCountedNode (λ digits s. tt))
    keeps WithinDepth h = let same = ap depth is in let least = bounds.depth_in_range.0 in omega (arith, same, deep, least)
    keeps WithinLength h = let same = ap longest is in omega (arith, same, long)
    keeps WithinItems h = let same = ap most_items is in omega (arith, same, wide, many, few)
    keeps WithinTotal h = small

-- a head and words within the limits spell a command
pub command_spelled : (limits : Bounds) → AreBounds limits → (written : List ℕ) (words : List (List ℕ)) (rest : List ℕ) → IsText written →
    IsCommand limits written words rest → BeginsWith limits written (command_of words) rest
command_spelled limits bounds written words rest are c =
    let ts = word_trees limits.length c.body words rest c.begins in
    let tree = node Array (Counted c.head.digits) ts in
    let whole : written ≡ text tree ++ rest =
    c.head.whole ∙ ap (λ l. (42 ∷ c.head.digits) ++ crlf l) (words_text limits.length c.body words rest c.begins) ∙ sym (array_on c.head.digits (texts ts) rest) in
    let body : IsText c.body = all_back ((42 ∷ c.head.digits) ++ crlf []) c.body
    (subst IsText (c.head.whole ∙ sym (append_assoc (42 ∷ c.head.digits) (crlf []) c.body)) are) in
    let is : value tree ≡ command_of words = ap (d.aggregate Array) (words_values limits.length c.body words rest c.begins) in
    let (long, deep, wide, many) = words_are_flat limits.length c.body words rest c.begins in
    let size : length written ≡ length (text tree) + length rest = ap length whole ∙ length-append (text tree) rest in
    record {
      written = text tree;
      whole = whole;
      spelled = record {
        tree = tree;
        spells = record {
          is_tree = (
            (c.head.counted.0, c.head.counted.1 ∙ sym (words_count limits.length c.body words rest c.begins)),
            words_are_trees limits.length c.body words rest c.begins body,
          );
          spelled = refl;
        };
        keeps = command_keeps limits bounds c.head.digits ts words is
            (λ L N each. words_every L N each limits.length c.body words rest c.begins) deep long wide many c.few (let small = c.small in omega (arith, small, size));
        valued = is;
      };
    }

-- trees of words are bulk strings
trees_are_words : (most : ℕ) (ts : Trees) (words : List (List ℕ)) (rest : List ℕ) → AreTrees ts → EveryOf IsLeafInTwo IsNodeInTwo ts →
    values ts ≡ data_of_list (map word_datum words) → longest_among (values ts) ≤ most → BeginsWithWords most (texts ts ++ rest) words rest
trees_are_words most none [] rest p two e long = refl
trees_are_words most (more (leaf (string Bulk digits s)) ts) (word ∷ words) rest p two e long =
    let same : s ≡ word = cc in
    let others : values ts ≡ data_of_list (map word_datum words) = cc in (
      texts ts ++ rest,
      subst (λ w. BeginsWithWord most (texts (more (leaf (string Bulk digits s)) ts) ++ rest) w (texts ts ++ rest)) same
          (record { digits = digits; counted = p.0.0; short = omega (arith, long); whole = string_on digits s (texts ts) rest }),
      trees_are_words most ts words rest p.1 two.1 others (omega (arith, long)),
    )
trees_are_words most (more (leaf (chunked chunks zeros)) ts) (word ∷ words) rest p two e long = absurd two.0
trees_are_words most (more (leaf (line Simple s)) ts) (word ∷ words) rest p two e long = absurd (cc)
trees_are_words most (more (leaf (line Error s)) ts) (word ∷ words) rest p two e long = absurd (cc)
trees_are_words most (more (leaf (line Double s)) ts) (word ∷ words) rest p two e long = absurd (cc)
trees_are_words most (more (leaf (numeral Int sign digits)) ts) (word ∷ words) rest p two e long = absurd (cc)
trees_are_words most (more (leaf (numeral Big sign digits)) ts) (word ∷ words) rest p two e long = absurd (cc)
trees_are_words most (more (leaf (string BulkError digits s)) ts) (word ∷ words) rest p two e long = absurd (cc)
trees_are_words most (more (leaf (string (Verbatim format) digits s)) ts) (word ∷ words) rest p two e long = absurd (cc)
trees_are_words most _ (word ∷ words) rest p two e long = absurd (cc)
trees_are_words most (more t ts) [] rest p two e long = absurd (cc)

tree_is_command : (limits : Bounds) (tree : Tree) (words : List (List ℕ)) (rest : List ℕ) → IsTree tree →
    Keeps (rules_under Two limits) WithinTotal tree → value tree ≡ command_of words → IsCommand limits (text tree ++ rest) words rest
tree_is_command limits (node Array (Counted digits) ts) words rest p keeps e =
    let others : values ts ≡ data_of_list (map word_datum words) = cc in
    let two : EveryOf IsLeafInTwo IsNodeInTwo ts = (keeps InVersion (omega arith)).1 in
    let begins = trees_are_words limits.length ts words rest p.1 two others (keeps WithinLength (omega arith)) in
    let (long, deep, wide, many) = words_are_flat limits.length (texts ts ++ rest) words rest begins in
    let counted : count ts ≡ length words = sym (count-values ts) ∙ ap d.count others ∙ many in
    let few = keeps WithinItems (omega arith) in
    let small = keeps WithinTotal (omega arith) in
    let size = length-append (text (node Array (Counted digits) ts)) rest in
    record {
      body = texts ts ++ rest;
      head = record { digits = digits; counted = (p.0.0, p.0.1 ∙ counted); whole = array_on digits (texts ts) rest };
      begins = begins;
      few = let same = count-values ts in omega (arith, few, same, counted);
      small = omega (arith, small, size);
    }
tree_is_command limits (node Array Streamed ts) words rest p keeps e = absurd (keeps InVersion (omega arith)).0
tree_is_command limits _ words rest p keeps e = absurd (cc)

-- a command that a text begins with has a head and words within the limits
pub command_parts : (limits : Bounds) (written : List ℕ) (words : List (List ℕ)) (rest : List ℕ) → BeginsWith limits written (command_of words) rest →
    IsCommand limits written words rest
command_parts limits written words rest b =
    subst (λ l. IsCommand limits l words rest) (ap (λ l. l ++ rest) b.spelled.spells.spelled ∙ sym b.whole)
    (tree_is_command limits b.spelled.tree words rest b.spelled.spells.is_tree b.spelled.keeps b.spelled.valued)

-- a command that a text begins with has the number in the head
pub number_of_words : (limits : Bounds) (written : List ℕ) (words : List (List ℕ)) (rest : List ℕ) (n : ℕ) (body : List ℕ) →
    BeginsWithHead written 42 n body → IsCommand limits written words rest →
    (length words ≡ n) × BeginsWithWords limits.length body words rest
number_of_words limits written words rest n body head c =
    let both = one_head written 42 (length words) n c.body body (omega arith) c.head head in
    (both.0, subst (λ l. BeginsWithWords limits.length l words rest) both.1 c.begins)

-- words up to the rest are no longer than the text
pub rest_is_shorter : (most : ℕ) (body : List ℕ) (words : List (List ℕ)) (rest : List ℕ) → BeginsWithWords most body words rest →
    length rest ≤ length body
rest_is_shorter most body words rest b =
    let size = ap length (words_text most body words rest b) ∙ length-append (texts (word_trees most body words rest b)) rest in
    omega (arith, size)

-- a head is shorter than the text
pub body_is_shorter : (written : List ℕ) (kind n : ℕ) (body : List ℕ) → BeginsWithHead written kind n body → length body ≤ length written
body_is_shorter written kind n body b =
    let size = ap length b.whole ∙ length-append (kind ∷ b.digits) (crlf body) in
    omega (arith, size)

-- a bulk string within the limits is spelled
pub word_spelled : (limits : Bounds) (written word rest : List ℕ) → IsText written → BeginsWithWord limits.length written word rest →
    length written ≤ length rest + limits.total → BeginsWith limits written (word_datum word) rest
word_spelled limits written word rest are b small =
    let tree = leaf (string Bulk b.digits word) in
    let whole : written ≡ text tree ++ rest =
    words_text limits.length written (word ∷ []) rest (rest, b, refl) ∙ ap (λ l. l ++ rest) (append-nil (text tree)) in
    let trees = words_are_trees limits.length written (word ∷ []) rest (rest, b, refl) are in
    let size : length written ≡ length (text tree) + length rest = ap length whole ∙ length-append (text tree) rest in
    record {
      written = text tree;
      whole = whole;
      spelled = record {
        tree = tree;
        spells = record { is_tree = trees.0; spelled = refl };
        keeps = keeps (omega (arith, small, size));
        valued = refl;
      };
    }
  where
    keeps : length (text (leaf (string Bulk b.digits word))) ≤ limits.total → (earlier : Rule) → rank earlier ≤ 9 →
        Meets (rules_under Two limits) earlier (leaf (string Bulk b.digits word))
    keeps total Grammar h = tt
    keeps total NoDouble h = λ off. tt
    keeps total InVersion h = tt
    keeps total PushAtTop h = tt
    keeps total InRange h = tt
    keeps total NotStreamed h = λ off. tt
    keeps total WithinDepth h = omega arith
    keeps total WithinLength h = b.short
    keeps total WithinItems h = omega arith
    keeps total WithinTotal h = total

-- a bulk string that a text begins with is within the limits
pub word_parts_of : (limits : Bounds) (written word rest : List ℕ) → BeginsWith limits written (word_datum word) rest →
    BeginsWithWord limits.length written word rest × (length written ≤ length rest + limits.total)
word_parts_of limits written word rest b =
    let tree = b.spelled.tree in
    let whole : text tree ++ rest ≡ written = ap (λ l. l ++ rest) b.spelled.spells.spelled ∙ sym b.whole in
    let long : longest (value tree) ≤ limits.length = b.spelled.keeps WithinLength (omega arith) in
    let (next, first, last) = trees_are_words limits.length (more tree none) (word ∷ []) rest (b.spelled.spells.is_tree, tt)
    (b.spelled.keeps InVersion (omega arith), tt) (ap (λ x. d.more x d.none) b.spelled.valued) (omega (arith, long)) in
    let total : length (text tree) ≤ limits.total = b.spelled.keeps WithinTotal (omega arith) in
    let size = ap length (sym whole) ∙ length-append (text tree) rest in (
      subst (λ l. BeginsWithWord limits.length l word rest) (ap (λ l. l ++ rest) (append-nil (text tree)) ∙ whole)
          (subst (λ l. BeginsWithWord limits.length (texts (more tree none) ++ rest) word l) last first),
      omega (arith, total, size),
    )
