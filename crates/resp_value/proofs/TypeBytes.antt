-- Which first bytes are viable, and the cause of the others.
use Rattle.std.proofs.Common.{◌≡◌, ℕ, ◌<◌, ◌≤◌, true, false, List, [], ◌∷◌, ◌++◌, length, codes, eqb, refl, sym, ap, subst, arith, not}
use Rattle.std.specs.List.{AllByRecursion}
use Rattle.std.proofs.lemmas.Int.{ints}
use Rattle.resp_value.specs.Bounds.{AreBounds}
use Rattle.resp_value.specs.Numbers.{Unsigned, IsDigits}
use Rattle.resp_value.specs.Data.{Kind, Array, Set, Map, Attr, Push, members_of, items_of}
use Rattle.resp_value.specs.Trees.{IsTree, Tree, leaf, node, none, more, Leaf, line, numeral, null, truth, string, Simple, Error, Double, Int, Big, PlainNull, Bulk, BulkError, Verbatim, Counted, text}
use Rattle.resp_value.specs.Rules.{Rules, Rule, Grammar, NoDouble, InVersion, PushAtTop, InRange, NotStreamed, WithinDepth, WithinLength, WithinItems, WithinTotal, rank, Keeps, Meets, Every, HasVersion, IsAnyNode, IsNoDouble, IsLeafInTwo, IsNodeInTwo, IsCountedLeaf, IsCountedNode}
use Rattle.resp_value.specs.Spellings.{IsViable, IsCause}
use Rattle.resp_value.specs.Laws.{type_bytes, later_type_bytes, type_bytes_of, TheEmptyTextIsViable, TypeBytesAreViable, LaterTypeBytesWantVersionThree, ACommaBeginsADouble, NoOtherByteBeginsATree}
use Rattle.resp_value.specs.declared.version.Version.{Version}
use Rattle.resp_value.specs.declared.version.Version.TheVariants.{Two, Three}
use Rattle.resp_value.proofs.Doubles.{completes_double, is_double_leaf}
use Rattle.resp_value.proofs.ByTests.{each_passes, apart_by_test, bytes_by_test}
use Rattle.resp_value.proofs.SmallTrees.{IsSmall, small_meets, small_leaf, small_node, one_digit, in_each_version, if_counted}
use Rattle.resp_value.proofs.FirstBytes.{first_byte, begins, first_byte_is, all_append, at_first_byte, at_first_byte_of_no_double, at_first_byte_of_two}
use Rattle.resp_value.proofs.ViabilityLaws.{at_first_rules, fronts_of_viable_texts_are_viable}

abbrev zero_digit : List ℕ
zero_digit = codes "0"

zero_is_digits : IsDigits zero_digit
zero_is_digits = one_digit 48 (omega arith) (omega arith)

-- an aggregate without members
abbrev empty_node : Kind → Tree
empty_node k = node k (Counted zero_digit) none

-- an empty verbatim string
abbrev empty_verbatim : Leaf
empty_verbatim = string (Verbatim (codes "txt")) (codes "4") []

-- an attribute of no pairs, and its value
abbrev bare_attribute : Tree
bare_attribute = node Attr (Counted zero_digit) (more (leaf (null PlainNull)) none)

small_simple : IsSmall (leaf (line Simple []))
small_simple = small_leaf (line Simple []) (tt, tt, tt) tt tt (omega arith) (omega arith)

small_error : IsSmall (leaf (line Error []))
small_error = small_leaf (line Error []) (tt, tt, tt) tt tt (omega arith) (omega arith)

small_int : IsSmall (leaf (numeral Int Unsigned zero_digit))
small_int = small_leaf (numeral Int Unsigned zero_digit) zero_is_digits tt (omega (arith, ints), omega (arith, ints)) (omega arith) (omega arith)

small_bulk : IsSmall (leaf (string Bulk zero_digit []))
small_bulk = small_leaf (string Bulk zero_digit []) ((zero_is_digits, refl), tt, tt) tt tt (omega arith) (omega arith)

small_verbatim : IsSmall (leaf empty_verbatim)
small_verbatim = small_leaf empty_verbatim ((one_digit 52 (omega arith) (omega arith), refl), (refl, bytes_by_test (codes "txt") refl), tt) tt tt (omega arith)
    (omega arith)

small_big : IsSmall (leaf (numeral Big Unsigned zero_digit))
small_big = small_leaf (numeral Big Unsigned zero_digit) zero_is_digits tt tt (omega arith) (omega arith)

small_null : IsSmall (leaf (null PlainNull))
small_null = small_leaf (null PlainNull) tt tt tt (omega arith) (omega arith)

small_truth : IsSmall (leaf (truth true))
small_truth = small_leaf (truth true) tt tt tt (omega arith) (omega arith)

small_bulk_error : IsSmall (leaf (string BulkError zero_digit []))
small_bulk_error = small_leaf (string BulkError zero_digit []) ((zero_is_digits, refl), tt, tt) tt tt (omega arith) (omega arith)

small_empty : (k : Kind) → members_of k 0 ≡ 0 → items_of k 0 ≤ 16 → length (text (empty_node k)) ≤ 256 → IsSmall (empty_node k)
small_empty k no_members items total = small_node k (Counted zero_digit) none ((zero_is_digits, no_members), tt) tt tt tt (omega arith) (omega arith)
    (omega arith) total

small_array : IsSmall (empty_node Array)
small_array = small_empty Array refl (omega arith) (omega arith)

small_set : IsSmall (empty_node Set)
small_set = small_empty Set refl (omega arith) (omega arith)

small_map : IsSmall (empty_node Map)
small_map = small_empty Map refl (omega arith) (omega arith)

small_push : IsSmall (empty_node Push)
small_push = small_empty Push refl (omega arith) (omega arith)

small_attribute : IsSmall bare_attribute
small_attribute = small_node Attr (Counted zero_digit) (more (leaf (null PlainNull)) none) ((zero_is_digits, refl), (tt, tt)) (tt, tt) (tt, tt) (tt, tt)
    (omega arith) (omega arith) (omega arith) (omega arith)

-- a tree's first byte is viable up to a rule where the tree keeps the rules up to it
viable_by : (r : Rules) (rule : Rule) (t : Tree) → IsTree t → Keeps r rule t → IsViable r rule (first_byte t ∷ [])
viable_by r rule t is_tree keeps =
    let (rest, e) = begins t in
    record { rest = rest; tree = t; spells = record { is_tree = is_tree; spelled = e }; keeps = keeps }

-- the type byte of a small counted tree of the version is viable
small_is_viable : (r : Rules) (t : Tree) → AreBounds r.limits → IsSmall t → Every IsCountedLeaf IsCountedNode t → HasVersion r.version t → (rule : Rule) →
    IsViable r rule (first_byte t ∷ [])
small_is_viable r t b s c w rule = viable_by r rule t s.is_tree (λ earlier h. small_meets r t b s w (if_counted r t c) earlier)

-- each of these bytes is viable
abbrev AllViable : Rules → Rule → List ℕ → Type 0
AllViable r rule bytes = AllByRecursion (λ byte. IsViable r rule (byte ∷ [])) bytes

old_bytes_viable : (r : Rules) → AreBounds r.limits → (rule : Rule) → AllViable r rule type_bytes
old_bytes_viable r b rule = (
  viable (leaf (line Simple [])) small_simple tt tt,
  (
    viable (leaf (line Error [])) small_error tt tt,
    (
      viable (leaf (numeral Int Unsigned zero_digit)) small_int tt tt,
      (
        viable (leaf (string Bulk zero_digit [])) small_bulk tt tt,
        (
          viable (empty_node Array) small_array (tt, tt) (tt, tt),
          tt,
        ),
      ),
    ),
  ),
)
  where
    viable : (t : Tree) → IsSmall t → Every IsCountedLeaf IsCountedNode t → Every IsLeafInTwo IsNodeInTwo t → IsViable r rule (first_byte t ∷ [])
    viable t s c w = small_is_viable r t b s c (in_each_version r.version t w) rule

-- no tree of version 2 begins with this byte
abbrev IsLater : ℕ → Type 0
IsLater byte = each_passes (λ b. not (eqb b byte)) type_bytes ≡ true

-- each later type byte begins a small counted tree
at_later_bytes : (P : ℕ → Type 0) → ((t : Tree) → IsSmall t → Every IsCountedLeaf IsCountedNode t → IsLater (first_byte t) → P (first_byte t)) →
    AllByRecursion P later_type_bytes
at_later_bytes P at_tree = (
  at_tree (leaf (null PlainNull)) small_null tt refl,
  (
    at_tree (leaf (truth true)) small_truth tt refl,
    (
      at_tree (leaf (numeral Big Unsigned zero_digit)) small_big tt refl,
      (
        at_tree (leaf (string BulkError zero_digit [])) small_bulk_error tt refl,
        (
          at_tree (leaf empty_verbatim) small_verbatim tt refl,
          (
            at_tree (empty_node Set) small_set (tt, tt) refl,
            (
              at_tree (empty_node Map) small_map (tt, tt) refl,
              (
                at_tree bare_attribute small_attribute (tt, (tt, tt)) refl,
                (
                  at_tree (empty_node Push) small_push (tt, tt) refl,
                  tt,
                ),
              ),
            ),
          ),
        ),
      ),
    ),
  ),
)

later_bytes_viable : (r : Rules) → r.version ≡ Three → AreBounds r.limits → (rule : Rule) → AllViable r rule later_type_bytes
later_bytes_viable r is_three b rule =
    at_later_bytes (λ byte. IsViable r rule (byte ∷ [])) (λ t s c later. small_is_viable r t b s c (subst (λ w. HasVersion w t) (sym is_three) tt) rule)

-- each type byte of a version is viable in it
pub type_bytes_are_viable : TypeBytesAreViable
type_bytes_are_viable r b rule = cases r.version refl
  where
    cases : (w : Version) → r.version ≡ w → AllViable r rule (type_bytes_of w)
    cases Two e = old_bytes_viable r b rule
    cases Three e = all_append (λ byte. IsViable r rule (byte ∷ [])) type_bytes later_type_bytes (old_bytes_viable r b rule) (later_bytes_viable r e b rule)

-- nothing has come, and all is viable
pub the_empty_text_is_viable : TheEmptyTextIsViable
the_empty_text_is_viable r b rule = fronts_of_viable_texts_are_viable r rule [] (codes "+") (old_bytes_viable r b rule).0

-- the first byte of the tree that a byte goes on to
byte_of : (r : Rules) (rule : Rule) (byte : ℕ) (v : IsViable r rule (byte ∷ [])) → first_byte v.tree ≡ byte
byte_of r rule byte v = first_byte_is v.tree [] (v.rest ++ []) byte (ap (λ z. z ++ []) v.spells.spelled)

-- no tree begins with another byte
pub no_other_byte_begins_a_tree : NoOtherByteBeginsATree
no_other_byte_begins_a_tree r byte other = record {
  viable_before = λ earlier h. absurd (omega arith);
  not_viable = λ v. at_first_byte (λ b. byte ≡ b → ⊥) other v.tree (sym (byte_of r Grammar byte v));
}

-- no rule comes before the grammar
first_rule : (r : Rules) (rule : Rule) (t : Tree) → rank rule < 1 → Meets r rule t
first_rule r rule t h = at_first_rules (λ u. rank u < 1 → Meets r u t) (λ g. tt) (λ g. absurd (omega arith)) (λ g. absurd (omega arith)) rule (omega arith) h

-- before the version come the grammar and doubles
before_version : (r : Rules) (rule : Rule) (t : Tree) → Meets r NoDouble t → rank rule < 2 → Meets r rule t
before_version r rule t no_double h = at_first_rules (λ u. rank u < 2 → Meets r u t) (λ g. tt) (λ g. no_double) (λ g. absurd (omega arith)) rule (omega arith) h

zero_is_double : IsTree (leaf (line Double zero_digit))
zero_is_double = is_double_leaf zero_digit (completes_double zero_digit refl)

-- where doubles aren't allowed, a `,` is refused for that
comma_without_doubles : (r : Rules) → r.limits.doubles ≡ false → IsCause r (codes ",") NoDouble
comma_without_doubles r off = record {
  viable_before = λ earlier h. record {
    rest = codes "0\r\n";
    tree = leaf (line Double zero_digit);
    spells = record { is_tree = zero_is_double; spelled = refl };
    keeps = λ first g. first_rule r first (leaf (line Double zero_digit)) (omega arith);
  };
  not_viable = λ v. let no_double : Every IsNoDouble IsAnyNode v.tree = v.keeps NoDouble (omega arith) off in
      at_first_byte_of_no_double (λ b. b ≡ 44 → ⊥) (apart_by_test 44 (type_bytes_of Three) refl) v.tree no_double (byte_of r NoDouble 44 v);
}

-- where doubles are allowed, version 2 refuses a `,`
comma_wants_three : (r : Rules) → r.limits.doubles ≡ true → r.version ≡ Two → IsCause r (codes ",") InVersion
comma_wants_three r allowed is_two = record {
  viable_before = λ earlier h. record {
    rest = codes "0\r\n";
    tree = leaf (line Double zero_digit);
    spells = record { is_tree = zero_is_double; spelled = refl };
    keeps = λ first g. before_version r first (leaf (line Double zero_digit)) (λ off. absurd (cc)) (omega arith);
  };
  not_viable = λ v.
      let in_version : HasVersion r.version v.tree = v.keeps InVersion (omega arith) in
      let in_two : Every IsLeafInTwo IsNodeInTwo v.tree = subst (λ w. HasVersion w v.tree) is_two in_version in
      at_first_byte_of_two (λ b. b ≡ 44 → ⊥) (apart_by_test 44 type_bytes refl) v.tree in_two (byte_of r InVersion 44 v);
}

-- a zero double meets each rule where doubles are allowed, in version 3
zero_double_meets : (r : Rules) → r.limits.doubles ≡ true → r.version ≡ Three → AreBounds r.limits → (rule : Rule) → Meets r rule (leaf (line Double zero_digit))
zero_double_meets r allowed is_three b Grammar = tt
zero_double_meets r allowed is_three b NoDouble = λ off. absurd (cc)
zero_double_meets r allowed is_three b InVersion = subst (λ w. HasVersion w (leaf (line Double zero_digit))) (sym is_three) tt
zero_double_meets r allowed is_three b PushAtTop = tt
zero_double_meets r allowed is_three b InRange = tt
zero_double_meets r allowed is_three b NotStreamed = λ off. tt
zero_double_meets r allowed is_three b WithinDepth = omega arith
zero_double_meets r allowed is_three b WithinLength = omega arith
zero_double_meets r allowed is_three b WithinItems = omega arith
zero_double_meets r allowed is_three b WithinTotal = let h : 256 ≤ r.limits.total = b.total_in_range.0 in omega arith

pub a_comma_begins_a_double : ACommaBeginsADouble
a_comma_begins_a_double r = (
  λ off. comma_without_doubles r off,
  λ allowed is_two. comma_wants_three r allowed is_two,
  λ allowed is_three b rule. record {
    rest = codes "0\r\n";
    tree = leaf (line Double zero_digit);
    spells = record { is_tree = zero_is_double; spelled = refl };
    keeps = λ first g. zero_double_meets r allowed is_three b first;
  },
)

-- a byte that begins a small tree and no tree of version 2
wants_three : (r : Rules) (t : Tree) → r.version ≡ Two → IsSmall t → IsLater (first_byte t) → IsCause r (first_byte t ∷ []) InVersion
wants_three r t is_two s later = record {
  viable_before = λ earlier h. viable_by r earlier t s.is_tree (λ first g. before_version r first t (λ off. s.no_double) (omega arith));
  not_viable = λ v.
      let in_version : HasVersion r.version v.tree = v.keeps InVersion (omega arith) in
      let in_two : Every IsLeafInTwo IsNodeInTwo v.tree = subst (λ w. HasVersion w v.tree) is_two in_version in
      at_first_byte_of_two (λ b. b ≡ first_byte t → ⊥) (apart_by_test (first_byte t) type_bytes later) v.tree in_two (byte_of r InVersion (first_byte t) v);
}

pub later_type_bytes_want_version_three : LaterTypeBytesWantVersionThree
later_type_bytes_want_version_three r is_two =
    at_later_bytes (λ byte. IsCause r (byte ∷ []) InVersion) (λ t s c later. wants_three r t is_two s later)
