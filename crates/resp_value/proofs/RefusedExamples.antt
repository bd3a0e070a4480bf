-- Worked examples of texts that spell nothing, and of the cause.
use Rattle.std.proofs.Common.{◌≡◌, ℕ, ◌<◌, List, [], ◌∷◌, ◌++◌, length, codes, refl, sym, ap, subst, ◌∙◌, arith, length-append, append_assoc, not, eqb, true, false}
use Rattle.std.proofs.lemmas.Int.{ints}
use Rattle.std.proofs.lemmas.List.{append-nil}
use Rattle.resp_value.specs.Bytes.{IsLine, crlf}
use Rattle.resp_value.specs.Numbers.{Unsigned, Minus, number}
use Rattle.resp_value.specs.Data.{Datum, Kind, Array, Map, Attr, Push, members_of}
use Rattle.resp_value.specs.Doubles.{IsDouble}
use Rattle.resp_value.specs.DoubleStages.{completes}
use Rattle.resp_value.specs.declared.double_stage.DoubleStage.TheVariants.{Begun}
use Rattle.resp_value.specs.Trees.{Tree, leaf, node, none, more, line, numeral, Simple, Error, Double, Int, Counted, Streamed, text, texts, count, kind_byte, CanStream, IsTree, Spells, chunked}
use Rattle.resp_value.specs.Rules.{Rules, Rule, Grammar, NoDouble, InVersion, PushAtTop, InRange, WithinTotal, Meets, Every, HasVersion, HasPushAtRoot, IsAnyLeaf, IsNoPush, NotStreamed}
use Rattle.resp_value.specs.Spellings.{IsSpelling, IsCause}
use Rattle.resp_value.specs.Examples.{simple, SpellsNothing, SpellsNothingInTwo, SpellsNothingSwitchedOff, SpellsNothingWithoutDoubles, HasCause, HasCauseInThree, IsCutWithFault}
use Rattle.resp_value.proofs.Doubles.{completes_double, double_completes, is_double_leaf}
use Rattle.resp_value.proofs.Splitting.{plain_above, return_split, no_newline_in_line}
use Rattle.resp_value.proofs.FirstBytes.{kind_of_byte, first_byte, first_byte_is, leaf_bytes, at_leaf_byte, leaf_is_no_push}
use Rattle.resp_value.proofs.FirstLines.{node_of, leaf_of, line_sort, no_sort, sort, sort_of, sort_is, first_line, first_is_line, after_line, text_is, line_decides}
use Rattle.resp_value.proofs.Unique.{same_tree, streamed_unique}
use Rattle.resp_value.proofs.SpellingLaws.{up_to_total}
use Rattle.resp_value.proofs.ViabilityLaws.{at_first_rules, fault_at_last, fronts_of_spellings_are_viable}
use Rattle.resp_value.proofs.DefaultLimits.{text_at_least}
use Rattle.resp_value.proofs.ByTests.{each_passes, apart_by_test, line_by_test, digits_by_test}
use Rattle.resp_value.proofs.SmallTrees.{one_digit}
use Rattle.resp_value.proofs.Examples.{simple_is_line, small_line}

-- what a rule says of the one tree of a text
said : (t : Tree) (rule : Rule) → IsTree t → (r : Rules) (x : Datum) → IsSpelling r x (text t) → Meets r rule t
said t rule p r x s =
    let same = same_tree s.tree t _ _ [] [] s.spells (record { is_tree = p; spelled = refl }) refl in
    subst (Meets r rule) same.0 (s.keeps rule (up_to_total rule))

-- a tree that no rules admit is the only one of its text
refused : (t : Tree) (rule : Rule) → IsTree t → ((r : Rules) → Meets r rule t → ⊥) → SpellsNothing (text t)
refused t rule p never r x s = never r (said t rule p r x s)

pub double : SpellsNothingWithoutDoubles (codes ",1.5\r\n")
double r x off s = said (leaf (line Double (codes "1.5"))) NoDouble (is_double_leaf (codes "1.5") (completes_double (codes "1.5") refl)) r x s off

pub more_than_64_bits : SpellsNothing (codes ":9223372036854775808\r\n")
more_than_64_bits = refused (leaf (numeral Int Unsigned (codes "9223372036854775808"))) InRange
    (digits_by_test (codes "9223372036854775808") (omega arith) refl) (λ r h. omega (arith, ints, h.1))

pub below_64_bits : SpellsNothing (codes ":-9223372036854775809\r\n")
below_64_bits = refused (leaf (numeral Int Minus (codes "9223372036854775809"))) InRange (digits_by_test (codes "9223372036854775809") (omega arith) refl)
    (λ r h. omega (arith, ints, h.0))

pub streamed_string_in_two : SpellsNothingInTwo (codes "$?\r\n;0\r\n")
streamed_string_in_two r x is_two s = subst (λ w. HasVersion w (leaf (chunked [] (codes "0")))) is_two
    (said (leaf (chunked [] (codes "0"))) InVersion (tt, (one_digit 48 (omega arith) (omega arith), refl)) r x s)

pub streamed_in_two : SpellsNothingInTwo (codes "*?\r\n.\r\n")
streamed_in_two r x is_two s = (subst (λ w. HasVersion w (node Array Streamed none)) is_two (said (node Array Streamed none) InVersion (tt, tt) r x s)).0

pub array_switched_off : SpellsNothingSwitchedOff (codes "*?\r\n.\r\n")
array_switched_off r x off s = (said (node Array Streamed none) NotStreamed (tt, tt) r x s off).0

pub string_switched_off : SpellsNothingSwitchedOff (codes "$?\r\n;0\r\n")
string_switched_off r x off s = said (leaf (chunked [] (codes "0"))) NotStreamed (tt, (one_digit 48 (omega arith) (omega arith), refl)) r x s off

-- what the first line of the text says of the tree
decided : (r : Rules) (x : Datum) (first rest : List ℕ) (s : IsSpelling r x (first ++ crlf rest)) → IsLine first →
    (sort first ≡ sort_of s.tree) × (after_line s.tree ++ [] ≡ rest)
decided r x first rest s no_break =
    let known = line_decides s.tree first rest [] s.spells.is_tree no_break (append-nil (text s.tree) ∙ s.spells.spelled) in
    (known.1, known.2)

-- no tree begins with a line that says nothing
no_sort_of_tree : (t : Tree) → no_sort ≡ sort_of t → ⊥
no_sort_of_tree (leaf l) e = absurd (cc)
no_sort_of_tree (node k form ts) e = absurd (cc)

-- a double's text is a number
text_of_double : (t : Tree) (text : List ℕ) → IsTree t → leaf_of (line_sort Double text) ≡ sort_of t → IsDouble text
text_of_double (leaf (line Double s)) text p e = let same : s ≡ text = cc in subst IsDouble same p.2
text_of_double (leaf (line Simple s)) text p e = absurd (cc)
text_of_double (leaf (line Error s)) text p e = absurd (cc)
text_of_double _ text p e = absurd (cc)

-- a line after `,` that the stages do not read
no_double : (text : List ℕ) → IsLine text → completes Begun text ≡ false → SpellsNothing (44 ∷ (text ++ crlf []))
no_double text is unread r x s =
    let known = decided r x (44 ∷ text) [] s (plain_above 44 (omega arith), is) in
    let read : completes Begun text ≡ true = double_completes text (text_of_double s.tree text s.spells.is_tree known.0) in
    let wrong : false ≡ true = sym unread ∙ read in
    absurd (cc)

pub empty_double : SpellsNothing (codes ",\r\n")
empty_double = no_double [] tt refl

pub word_as_double : SpellsNothing (codes ",abc\r\n")
word_as_double = no_double (codes "abc") (line_by_test (codes "abc") refl) refl

pub double_without_whole : SpellsNothing (codes ",.5\r\n")
double_without_whole = no_double (codes ".5") (line_by_test (codes ".5") refl) refl

pub double_without_fraction : SpellsNothing (codes ",1.\r\n")
double_without_fraction = no_double (codes "1.") (line_by_test (codes "1.") refl) refl

pub double_without_exponent : SpellsNothing (codes ",1e+\r\n")
double_without_exponent = no_double (codes "1e+") (line_by_test (codes "1e+") refl) refl

pub hexadecimal_double : SpellsNothing (codes ",0x1p3\r\n")
hexadecimal_double = no_double (codes "0x1p3") (line_by_test (codes "0x1p3") refl) refl

pub longer_infinity : SpellsNothing (codes ",infinity\r\n")
longer_infinity = no_double (codes "infinity") (line_by_test (codes "infinity") refl) refl

pub plus_infinity : SpellsNothing (codes ",+inf\r\n")
plus_infinity = no_double (codes "+inf") (line_by_test (codes "+inf") refl) refl

-- an attribute of no pairs without a value
no_bare_attribute : (t : Tree) → IsTree t → node_of Attr (Counted (codes "0")) ≡ sort_of t → after_line t ++ [] ≡ [] → ⊥
no_bare_attribute (leaf l) p e a = absurd (cc)
no_bare_attribute (node k Streamed ts) p e a = absurd (cc)
no_bare_attribute (node k (Counted digits) none) p e a =
    let k0 : k ≡ Attr = cc in
    let d0 : digits ≡ codes "0" = cc in
    let none_declared : members_of k (number digits) ≡ 0 = p.0.1 in
    let one : members_of k (number digits) ≡ 1 = (λ i. members_of (k0 i) (number (d0 i))) in
    omega arith
no_bare_attribute (node k (Counted digits) (more t ts)) p e a =
    let three = text_at_least t in
    let empty : length (((text t ++ texts ts) ++ []) ++ []) ≡ 0 = ap length a in
    let longer = simp length-append at empty in
    absurd (omega arith)

pub attribute_alone : SpellsNothing (codes "|0\r\n")
attribute_alone r x s =
    let known = decided r x (codes "|0") [] s (line_by_test (codes "|0") refl) in
    no_bare_attribute s.tree s.spells.is_tree known.0 known.1

-- a text that no tree goes on with is refused by the grammar
by_grammar : (front : List ℕ) → ((t : Tree) (rest : List ℕ) → Spells t (front ++ rest) → ⊥) → (r : Rules) → IsCause r front Grammar
by_grammar front never r = record {
  viable_before = λ earlier h. absurd (omega arith);
  not_viable = λ v. never v.tree v.rest v.spells;
}

-- an LF where a line has no CR yet
no_newline : (byte : ℕ) → 13 < byte → (t : Tree) (x rest : List ℕ) → IsTree t → text t ++ x ≡ 43 ∷ byte ∷ 10 ∷ rest → ⊥
no_newline byte above t x rest p e =
    no_newline_in_line (first_line t) (43 ∷ byte ∷ []) (after_line t ++ x) rest (first_is_line t p) (plain_above 43 (omega arith), (plain_above byte above, tt))
    (sym (text_is t x) ∙ e)

newline_cause : (byte : ℕ) → 13 < byte → (r : Rules) → IsCause r (43 ∷ byte ∷ 10 ∷ []) Grammar
newline_cause byte above r = by_grammar (43 ∷ byte ∷ 10 ∷ []) (λ t rest s. no_newline byte above t [] rest s.is_tree (append-nil (text t) ∙ s.spelled)) r

pub newline_in_a_line : HasCause (codes "+a\n") Grammar
newline_in_a_line r b = newline_cause 97 (omega arith) r

-- a CR where a number has no digit yet
no_digit : (t : Tree) (rest : List ℕ) → Spells t (codes ":\r" ++ rest) → ⊥
no_digit t rest s =
    let split = return_split (first_line t) (codes ":") (10 ∷ (after_line t ++ [])) rest (first_is_line t s.is_tree) (line_by_test (codes ":") refl)
    (sym (text_is t []) ∙ append-nil (text t) ∙ s.spelled) in
    no_sort_of_tree t (sym (ap sort split.0) ∙ sort_is t s.is_tree)

pub no_digits : HasCause (codes ":\r") Grammar
no_digits r b = by_grammar (codes ":\r") no_digit r

-- a `.` where a streamed map has a key without a value
no_lone_key : (t : Tree) (rest : List ℕ) → IsTree t → node_of Map Streamed ≡ sort_of t → after_line t ++ [] ≡ codes "+a\r\n." ++ rest → ⊥
no_lone_key (leaf l) rest p e a = absurd (cc)
no_lone_key (node k (Counted digits) ts) rest p e a = absurd (cc)
no_lone_key (node k Streamed ts) rest p e a =
    let members : texts ts ++ codes ".\r\n" ≡ texts (more (leaf (line Simple (codes "a"))) none) ++ (46 ∷ rest) = sym (append-nil (texts ts ++ codes ".\r\n")) ∙
    a in
    let same = streamed_unique ts (more (leaf (line Simple (codes "a"))) none) (codes "\r\n") rest p.1 (simple_is_line 97 (omega arith) (omega arith), tt)
    members in
    let one : count ts ≡ 1 = ap count same.0 in
    let is_map : k ≡ Map = cc in
    let even : CanStream Map (count ts) = subst (λ j. CanStream j (count ts)) is_map p.0 in
    let pairs = even.1 in
    omega arith

no_closed_key : (t : Tree) (rest : List ℕ) → Spells t (codes "%?\r\n+a\r\n." ++ rest) → ⊥
no_closed_key t rest s =
    let known = line_decides t (codes "%?") (codes "+a\r\n." ++ rest) [] s.is_tree (line_by_test (codes "%?") refl) (append-nil (text t) ∙ s.spelled) in
    no_lone_key t rest s.is_tree known.1 known.2

pub map_closed_after_a_key : HasCause (codes "%?\r\n+a\r\n.") Grammar
map_closed_after_a_key r b = by_grammar (codes "%?\r\n+a\r\n.") no_closed_key r

-- a kind that no leaf shares its byte with, and that isn't streamed
no_mark : (k : Kind) → each_passes (λ b. not (eqb b (kind_byte k))) (codes "," ++ leaf_bytes) ≡ true → ((n : ℕ) → CanStream k n → ⊥) →
    (t : Tree) (rest : List ℕ) → IsTree t → text t ≡ kind_byte k ∷ 63 ∷ rest → ⊥
no_mark k no_leaf never (leaf l) rest p e = at_leaf_byte (λ b. b ≡ kind_byte k → ⊥) (apart_by_test (kind_byte k) (codes "," ++ leaf_bytes) no_leaf) l
    (first_byte_is (leaf l) [] (63 ∷ rest) (kind_byte k) (append-nil (text (leaf l)) ∙ e))
no_mark k no_leaf never (node j (Counted []) ts) rest p e = absurd (omega (arith, p.0.0.0))
no_mark k no_leaf never (node j (Counted (d ∷ digits)) ts) rest p e = let mark : d ≡ 63 = cc in absurd (omega (arith, p.0.0.1.0.1))
no_mark k no_leaf never (node j Streamed ts) rest p e =
    let same : j ≡ k = kind_of_byte j k (cc) in
    never (count ts) (subst (λ i. CanStream i (count ts)) same p.0)

pub streamed_push : HasCause (codes ">?") Grammar
streamed_push r b = by_grammar (codes ">?") (λ t rest s. no_mark Push refl (λ n h. h) t rest s.is_tree s.spelled) r

pub streamed_attribute : HasCause (codes "|?") Grammar
streamed_attribute r b = by_grammar (codes "|?") (λ t rest s. no_mark Attr refl (λ n h. h) t rest s.is_tree s.spelled) r

-- what begins with `>` is a push
no_push_by_byte : (t : Tree) → first_byte t ≡ 62 → Every IsAnyLeaf IsNoPush t → ⊥
no_push_by_byte (leaf l) e h = leaf_is_no_push l e
no_push_by_byte (node k form ts) e h = subst (λ j. IsNoPush j form) (kind_of_byte k Push e) h.0

-- an array whose first member begins with `>`
no_push_member : (t : Tree) (rest : List ℕ) → node_of Array (Counted (codes "1")) ≡ sort_of t → after_line t ++ [] ≡ 62 ∷ rest → HasPushAtRoot t → ⊥
no_push_member (leaf l) rest e a h = absurd (cc)
no_push_member (node k Streamed ts) rest e a h = absurd (cc)
no_push_member (node k (Counted digits) none) rest e a h = absurd (cc)
no_push_member (node k (Counted digits) (more t ts)) rest e a h =
    let whole : text t ++ ((texts ts ++ []) ++ []) ≡ 62 ∷ rest = sym (append_assoc (text t) (texts ts ++ []) []) ∙
    ap (λ z. z ++ []) (sym (append_assoc (text t) (texts ts) [])) ∙ a in
    no_push_by_byte t (first_byte_is t ((texts ts ++ []) ++ []) rest 62 whole) h.0

abbrev push_in_array : Tree
push_in_array = node Array (Counted (codes "1")) (more (node Push (Counted (codes "0")) none) none)

pub push_below_the_top : HasCauseInThree (codes "*1\r\n>") PushAtTop
push_below_the_top r b is_three = record {
  viable_before = λ earlier h. record {
    rest = codes "0\r\n";
    tree = push_in_array;
    spells = record {
      is_tree = ((one_digit 49 (omega arith) (omega arith), refl), (((one_digit 48 (omega arith) (omega arith), refl), tt), tt));
      spelled =
          refl;
    };
    keeps = λ first g. at_first_rules (λ rule. Meets r rule push_in_array) tt (λ off. (tt, ((tt, tt), tt))) (subst (λ w. HasVersion w push_in_array) (sym is_three) tt)
        first (omega arith);
  };
  not_viable = λ v.
      let known = line_decides v.tree (codes "*1") (62 ∷ v.rest) [] v.spells.is_tree (line_by_test (codes "*1") refl) (append-nil (text v.tree) ∙
      v.spells.spelled) in
      no_push_member v.tree v.rest known.1 known.2 (v.keeps PushAtTop (omega arith));
}

pub value_and_fault : IsCutWithFault (codes "+a\r\n+b\n+c\r\n") (simple (codes "a") ∷ []) (codes "+b\n+c\r\n") Grammar 2
value_and_fault r b = (
  record {
    front = codes "+a\r\n";
    spelled = (codes "+a\r\n", [], small_line 97 (omega arith) (omega arith) r b, refl, refl);
    whole = refl;
    no_more = λ x next beyond s e. no_newline 98 (omega arith) s.tree beyond (codes "+c\r\n") s.spells.is_tree (ap (λ z. z ++ beyond) s.spells.spelled ∙ sym e);
  },
  fault_at_last r (codes "+b") (codes "+c\r\n") 10 Grammar (fronts_of_spellings_are_viable r (simple (codes "b")) (codes "+b") (codes "\r\n")
      (small_line 98 (omega arith) (omega arith) r b) WithinTotal) (newline_cause 98 (omega arith) r),
)
