-- Why a first byte is refused on a level, or how a value goes on after it.
use Rattle.std.proofs.Common.{◌≡◌, ℕ, zero, suc, ◌<◌, ◌≤◌, Bool, true, false, Option, None, Some, List, [], ◌∷◌, ◌++◌, length, refl, sym, subst, ◌∙◌, arith, append-nil, cond}
use Rattle.std.specs.Prelude.{codes}
use Rattle.std.specs.List.{AllByRecursion}
use Rattle.resp_value.specs.Bytes.{crlf}
use Rattle.resp_value.specs.Numbers.{Unsigned}
use Rattle.resp_value.specs.Data.{Kind, Array, Set, Map, Attr, Push, content_length, members_of, items_of}
use Rattle.resp_value.specs.TreeValues.{leaf_value}
use Rattle.resp_value.specs.Trees.{Tree, leaf, node, none, Leaf, line, numeral, null, truth, string, Simple, Error, Double, Int, Big, BulkNull, ArrayNull, PlainNull, BulkError, Verbatim, Counted, text, kind_byte, IsLeaf, leaf_text}
use Rattle.resp_value.specs.Rules.{Rules, Rule, Grammar, NoDouble, InVersion, PushAtTop, NotStreamed, WithinDepth, WithinItems, rank, IsNoDouble, IsLeafInTwo, IsInRange, IsCountedLeaf}
use Rattle.resp_value.specs.LocalRules.{HoldsFrom, LeafKeeps, NodeKeeps, LeafMeets, NodeMeets, IsNoPushBelow}
use Rattle.resp_value.specs.Bounds.{AreBounds}
use Rattle.resp_value.specs.Laws.{type_bytes, type_bytes_of}
use Rattle.resp_value.specs.declared.version.Version.{Version}
use Rattle.resp_value.specs.declared.version.Version.TheVariants.{Two, Three}
use Rattle.resp_value.proofs.Doubles.{completes_double, is_double_leaf}
use Rattle.resp_value.proofs.ByTests.{apart_by_test}
use Rattle.resp_value.proofs.FirstBytes.{first_byte, first_byte_is, at_first_byte, at_first_byte_of_two}
use Rattle.resp_value.proofs.Choices.{if_equal, if_within}
use Rattle.resp_fronts.specs.FirstByteRefusals.{answer_beside, refusal_in_three, aggregate_refusal, push_refusal, double_refusal, first_byte_answers, first_byte_refusal}
use Rattle.resp_fronts.proofs.FrameLaws.KeptNodes.{at_each_rule, leaf_keeps, node_keeps}
use Rattle.resp_fronts.proofs.FirstLines.FirstLineRows.{are_zeros, zero_digits}
use Rattle.resp_fronts.proofs.FirstLines.TextLines.{text_line_keeps}
use Rattle.resp_fronts.proofs.Refusals.IntegerRange.{range_in}
use Rattle.resp_fronts.proofs.Refusals.RefusedFronts.{fewer_rules}
use Rattle.resp_fronts.proofs.Refusals.RefusedBytes.{IsOther, kind_too_deep, push_below, double_refused}
use Rattle.resp_fronts.proofs.FirstLines.CountRows.{CompletesUnder, IsRefusedHere, count_ends}
use Rattle.resp_fronts.specs.Tokens.{zeros}

-- a value can go on after these bytes, within the rules up to this one
pub record GoesOn (r : Rules) (rule : Rule) (level : ℕ) (bytes : List ℕ) : Type 0 where
  pub rest : List ℕ
  pub completes : CompletesUnder r rule level bytes rest
  pub some : 0 < length rest

-- what an answer says of begun bytes
abbrev pub IsAnswered : Rules → ℕ → List ℕ → Option Rule → Type 0
IsAnswered r level bytes None = GoesOn r WithinItems level bytes
IsAnswered r level bytes (Some rule) = ((rest : List ℕ) → CompletesUnder r rule level bytes rest → ⊥) ×
    ((before : Rule) → rank rule ≡ suc (rank before) → GoesOn r before level bytes)

-- a value goes on after its first byte
leaf_goes_on : (r : Rules) (rule : Rule) (level byte : ℕ) (l : Leaf) (rest : List ℕ) → IsLeaf l → LeafKeeps r rule level l → leaf_text l ≡ byte ∷ rest →
    0 < length rest → GoesOn r rule level (byte ∷ [])
leaf_goes_on r rule level byte l rest p q e some = record { rest = rest; completes = record { tree = leaf l; is_tree = p; keep = q; whole = e }; some = some }

-- what is within more rules is within fewer
pub goes_on_before : (r : Rules) (rule before : Rule) (level : ℕ) (bytes : List ℕ) → rank before ≤ rank rule → GoesOn r rule level bytes →
    GoesOn r before level bytes
goes_on_before r rule before level bytes e g = record {
  rest = g.rest;
  completes = record {
    tree = g.completes.tree;
    is_tree = g.completes.is_tree;
    keep = fewer_rules r rule before level g.completes.tree e g.completes.keep;
    whole = g.completes.whole;
  };
  some = g.some;
}

-- a refusal by a rule where the one before it lets the bytes go on
pub answered_by : (r : Rules) (rule before : Rule) (level : ℕ) (bytes : List ℕ) → rank rule ≡ suc (rank before) → IsRefusedHere r rule before level bytes →
    IsAnswered r level bytes (Some rule)
answered_by r rule before level bytes e w = (
  w.dead,
  λ b h. goes_on_before r before b level bytes (omega arith)
      (record { rest = w.rest; completes = w.alive; some = w.some }),
)

-- a leaf of version 3 alone goes on in version 3, and any leaf but a double within the rules before the version
leaf_before_version : (r : Rules) (level : ℕ) (l : Leaf) → IsNoDouble l → LeafKeeps r NoDouble level l
leaf_before_version r level l no_double earlier = at_each_rule (λ a. rank a ≤ 1 → LeafMeets r a level l) (λ e. tt) (λ e. λ off. no_double)
    (λ e. absurd (omega arith)) (λ e. tt) (λ e. absurd (omega arith)) (λ e. absurd (omega arith)) (λ e. tt) (λ e. absurd (omega arith)) (λ e. tt) (λ e. tt) earlier

node_before_version : (r : Rules) (level : ℕ) (k : Kind) (n : ℕ) → NodeKeeps r NoDouble level k (Counted (48 ∷ [])) n
node_before_version r level k n earlier = at_each_rule (λ a. rank a ≤ 1 → NodeMeets r a level k (Counted (48 ∷ [])) n) (λ e. tt) (λ e. tt)
    (λ e. absurd (omega arith)) (λ e. absurd (omega arith)) (λ e. tt) (λ e. absurd (omega arith)) (λ e. absurd (omega arith)) (λ e. tt)
    (λ e. absurd (omega arith)) (λ e. tt) earlier

-- in version 2 no value begins with a byte that is none of its type bytes
in_two_dead : (r : Rules) (level byte : ℕ) (rest : List ℕ) → r.version ≡ Two → AllByRecursion (λ b. b ≡ byte → ⊥) type_bytes →
    CompletesUnder r InVersion level (byte ∷ []) rest → ⊥
in_two_dead r level byte rest is_two apart w = cases w.tree w.keep (first_byte_is w.tree [] rest byte (append-nil (text w.tree) ∙ w.whole))
  where
    cases : (t : Tree) → HoldsFrom (LeafKeeps r InVersion) (NodeKeeps r InVersion) level t → first_byte t ≡ byte → ⊥
    cases (leaf l) kept = at_first_byte_of_two (λ b. b ≡ byte → ⊥) apart (leaf l) (kept InVersion (omega arith) is_two)
    cases (node k form ts) kept = at_first_byte_of_two (λ b. b ≡ byte → ⊥) apart (node k form none) (kept.0 InVersion (omega arith) is_two, tt)

-- a byte that version 3 alone has
later_answered : (r : Rules) (level byte : ℕ) (answer : Option Rule) → AllByRecursion (λ b. b ≡ byte → ⊥) type_bytes → GoesOn r NoDouble level (byte ∷ []) →
    ((r.version ≡ Two → ⊥) → IsAnswered r level (byte ∷ []) answer) → IsAnswered r level (byte ∷ []) (refusal_in_three r.version answer)
later_answered r level byte answer apart before in_version = cases r.version refl
  where
    cases : (v : Version) → r.version ≡ v → IsAnswered r level (byte ∷ []) (refusal_in_three v answer)
    cases Two e = (λ rest. in_two_dead r level byte rest e apart, λ b h. goes_on_before r NoDouble b level (byte ∷ []) (omega arith) before)
    cases Three e = in_version (λ is_two. let h : Two ≡ Three = sym is_two ∙ e in absurd (cc))

later_leaf : (r : Rules) (level byte : ℕ) (l : Leaf) (rest : List ℕ) → AllByRecursion (λ b. b ≡ byte → ⊥) type_bytes → IsLeaf l → IsNoDouble l → IsInRange l →
    IsCountedLeaf l → content_length (leaf_value l) ≤ r.limits.length → leaf_text l ≡ byte ∷ rest → 0 < length rest →
    IsAnswered r level (byte ∷ []) (refusal_in_three r.version None)
later_leaf r level byte l rest apart p no_double in_range counted fits e some =
    later_answered r level byte None apart
    (leaf_goes_on r NoDouble level byte l rest p (leaf_before_version r level l no_double) e some)
    (λ no_two. leaf_goes_on r WithinItems level byte l rest p (leaf_keeps r WithinItems level l no_double (λ is_two. absurd (no_two is_two)) in_range
    (λ off. counted) fits) e some)

later_leaf_in_two : (r : Rules) (level byte : ℕ) (l : Leaf) (rest : List ℕ) → IsLeaf l → IsNoDouble l → IsLeafInTwo l → IsInRange l → IsCountedLeaf l →
    content_length (leaf_value l) ≤ r.limits.length → leaf_text l ≡ byte ∷ rest → 0 < length rest → IsAnswered r level (byte ∷ []) None
later_leaf_in_two r level byte l rest p no_double in_two in_range counted fits e some =
    leaf_goes_on r WithinItems level byte l rest p (leaf_keeps r WithinItems level l no_double (λ is_two. in_two) in_range (λ off. counted) fits) e some

-- the shortest aggregate of a kind goes on after its type byte
kind_goes_on : (r : Rules) (rule : Rule) (level : ℕ) (k : Kind) → NodeKeeps r rule level k (Counted (48 ∷ [])) (members_of k 0) →
    GoesOn r rule level (kind_byte k ∷ [])
kind_goes_on r rule level k keeps =
    let e = count_ends r rule level k 48 [] zero_digits keeps in
    record { rest = 48 ∷ _; completes = record { tree = e.tree; is_tree = e.is_tree; keep = e.keep; whole = e.whole }; some = omega arith }

no_items : (k : Kind) → items_of k (members_of k 0) ≡ 0
no_items Array = refl
no_items _ = refl

-- an aggregate on a level
aggregate_answered : (r : Rules) (level : ℕ) (k : Kind) → IsOther k → (r.version ≡ Two → ⊥) → IsNoPushBelow level k →
    IsAnswered r level (kind_byte k ∷ []) (aggregate_refusal r level)
aggregate_answered r level k other no_two no_push =
    if_within r.limits.depth level (λ x. IsAnswered r level (kind_byte k ∷ []) (cond x (Some WithinDepth) None))
    (λ deep. answered_by r WithinDepth NotStreamed level (kind_byte k ∷ []) refl (kind_too_deep r level k other deep before_depth))
    (λ below. kind_goes_on r WithinItems level k (node_keeps r WithinItems level k (Counted (48 ∷ [])) (members_of k 0) (λ is_two. absurd (no_two is_two))
    no_push (λ off. tt) below (omega (arith, no_items k))))
  where
    before_depth : NodeKeeps r NotStreamed level k (Counted (48 ∷ [])) (members_of k 0)
    before_depth earlier = at_each_rule (λ a. rank a ≤ 5 → NodeMeets r a level k (Counted (48 ∷ [])) (members_of k 0)) (λ e. tt) (λ e. tt)
        (λ e. λ is_two. absurd (no_two is_two)) (λ e. no_push) (λ e. tt) (λ e. λ off. tt) (λ e. absurd (omega arith)) (λ e. tt) (λ e. absurd (omega arith))
        (λ e. tt) earlier

later_kind : (r : Rules) (level : ℕ) (k : Kind) → AllByRecursion (λ b. b ≡ kind_byte k → ⊥) type_bytes → IsOther k → IsNoPushBelow level k →
    IsAnswered r level (kind_byte k ∷ []) (refusal_in_three r.version (aggregate_refusal r level))
later_kind r level k apart other no_push =
    later_answered r level (kind_byte k) (aggregate_refusal r level) apart (kind_goes_on r NoDouble level k (node_before_version r level k (members_of k 0)))
    (λ no_two. aggregate_answered r level k other no_two no_push)

push_answered : (r : Rules) (level : ℕ) → IsAnswered r level (62 ∷ []) (refusal_in_three r.version (push_refusal r level))
push_answered r level = later_answered r level 62 (push_refusal r level) (apart_by_test 62 type_bytes refl)
    (kind_goes_on r NoDouble level Push (node_before_version r level Push 0)) (λ no_two. cases level no_two)
  where
    before_push : (level : ℕ) → (r.version ≡ Two → ⊥) → NodeKeeps r InVersion level Push (Counted (48 ∷ [])) 0
    before_push level no_two earlier = at_each_rule (λ a. rank a ≤ 2 → NodeMeets r a level Push (Counted (48 ∷ [])) 0) (λ e. tt) (λ e. tt)
        (λ e. λ is_two. absurd (no_two is_two)) (λ e. absurd (omega arith)) (λ e. tt) (λ e. absurd (omega arith)) (λ e. absurd (omega arith)) (λ e. tt)
        (λ e. absurd (omega arith)) (λ e. tt) earlier

    cases : (level : ℕ) → (r.version ≡ Two → ⊥) → IsAnswered r level (62 ∷ []) (push_refusal r level)
    cases zero no_two = aggregate_answered r 0 Push tt no_two refl
    cases (suc level) no_two = answered_by r PushAtTop InVersion (suc level) (62 ∷ []) refl
        (push_below r (suc level) (omega arith) (before_push (suc level) no_two))

zero_is_double : IsLeaf (line Double (48 ∷ []))
zero_is_double = is_double_leaf (48 ∷ []) (completes_double (48 ∷ []) refl)

-- a double, which is of version 3 alone where doubles are allowed
double_answered : (r : Rules) (level : ℕ) → 64 ≤ r.limits.length → IsAnswered r level (44 ∷ []) (double_refusal r)
double_answered r level roomy = cases r.limits.doubles refl
  where
    before_version : r.limits.doubles ≡ true → LeafKeeps r NoDouble level (line Double (48 ∷ []))
    before_version allowed earlier = at_each_rule (λ a. rank a ≤ 1 → LeafMeets r a level (line Double (48 ∷ []))) (λ e. tt) (λ e. λ off. absurd (cc))
        (λ e. absurd (omega arith)) (λ e. tt) (λ e. tt) (λ e. absurd (omega arith)) (λ e. tt) (λ e. omega (arith, roomy)) (λ e. tt) (λ e. tt) earlier

    cases : (b : Bool) → r.limits.doubles ≡ b → IsAnswered r level (44 ∷ []) (cond b (refusal_in_three r.version None) (Some NoDouble))
    cases false off = answered_by r NoDouble Grammar level (44 ∷ []) refl (double_refused r level off)
    cases true allowed = later_answered r level 44 None (apart_by_test 44 type_bytes refl)
        (leaf_goes_on r NoDouble level 44 (line Double (48 ∷ [])) (48 ∷ crlf []) zero_is_double (before_version allowed) refl (omega arith))
        (λ no_two. leaf_goes_on r WithinItems level 44 (line Double (48 ∷ [])) (48 ∷ crlf []) zero_is_double
        (text_line_keeps r WithinItems level Double (48 ∷ []) (no_two, λ off. absurd (cc)) (omega (arith, roomy))) refl (omega arith))

-- what holds of a row, and of those after it
pub and_rows : {A B : Type 0} → A → B → A × B
and_rows here beyond = (here, beyond)

-- what holds beside each byte, and of every other byte, holds of the answer
pub at_answer : {A : Type 0} (P : ℕ → A → Type 0) (rows : List (ℕ × A)) (other : A) (byte : ℕ) → AllByRecursion (λ row. P row.0 row.1) rows →
    (AllByRecursion (λ row. byte ≡ row.0 → ⊥) rows → P byte other) → P byte (answer_beside rows other byte)
at_answer P [] other byte each beyond = beyond tt
at_answer P (row ∷ rows) other byte each beyond =
    if_equal byte row.0 (λ x. P byte (cond x row.1 (answer_beside rows other byte))) (λ e. subst (λ b. P b row.1) (sym e) each.0)
    (λ apart. at_answer P rows other byte each.1 (λ more. beyond (apart, more)))

-- no value begins with a byte that is no type byte
other_answered : (r : Rules) (level byte : ℕ) → AllByRecursion (λ b. byte ≡ b → ⊥) (codes "," ++ type_bytes_of Three) →
    IsAnswered r level (byte ∷ []) (Some Grammar)
other_answered r level byte apart = (
  λ rest w. at_first_byte (λ b. byte ≡ b → ⊥) apart w.tree (sym (first_byte_is w.tree [] rest byte (append-nil (text w.tree) ∙ w.whole))),
  λ before e. absurd (omega arith),
)

-- the first rule that refuses a first byte is this one, and none refuses it where there is none
pub first_byte_answered : (r : Rules) (level byte : ℕ) → AreBounds r.limits → IsAnswered r level (byte ∷ []) (first_byte_refusal r level byte)
first_byte_answered r level byte b =
    at_answer (λ x answer. IsAnswered r level (x ∷ []) answer) (first_byte_answers r level) (Some Grammar) byte
    (and_rows (double_answered r level b.length_in_range.0)
    (and_rows (later_leaf_in_two r level 43 (line Simple []) (crlf []) (tt, tt, tt) tt tt tt tt (omega arith) refl (omega arith))
    (and_rows (later_leaf_in_two r level 45 (line Error []) (crlf []) (tt, tt, tt) tt tt tt tt (omega arith) refl (omega arith))
    (and_rows (later_leaf_in_two r level 58 (numeral Int Unsigned (48 ∷ [])) (48 ∷ crlf []) zero_digits tt tt (range_in Unsigned (48 ∷ []) (omega arith)) tt
    (omega arith) refl (omega arith))
    (and_rows (later_leaf_in_two r level 36 (null BulkNull) (45 ∷ 49 ∷ crlf []) tt tt tt tt tt (omega arith) refl (omega arith))
    (and_rows (later_leaf_in_two r level 42 (null ArrayNull) (45 ∷ 49 ∷ crlf []) tt tt tt tt tt (omega arith) refl (omega arith))
    (and_rows (later_leaf r level 95 (null PlainNull) (crlf []) (apart_by_test 95 type_bytes refl) tt tt tt tt (omega arith) refl (omega arith))
    (and_rows (later_leaf r level 35 (truth true) (116 ∷ crlf []) (apart_by_test 35 type_bytes refl) tt tt tt tt (omega arith) refl (omega arith))
    (and_rows (later_leaf r level 40 (numeral Big Unsigned (48 ∷ [])) (48 ∷ crlf []) (apart_by_test 40 type_bytes refl) zero_digits tt tt tt
    (omega (arith, b.length_in_range.0)) refl (omega arith))
    (and_rows (later_leaf r level 33 (string BulkError (48 ∷ []) []) (48 ∷ crlf (crlf [])) (apart_by_test 33 type_bytes refl) ((zero_digits, refl), tt, tt)
    tt tt tt (omega arith) refl (omega arith))
    (and_rows (later_leaf r level 61 (string (Verbatim (zeros 3)) (52 ∷ []) []) (52 ∷ crlf (zeros 3 ++ 58 ∷ crlf [])) (apart_by_test 61 type_bytes refl)
    (((omega arith, ((omega arith, omega arith), tt)), refl), (refl, are_zeros 3), tt) tt tt tt (omega (arith, b.length_in_range.0)) refl (omega arith))
    (and_rows (later_kind r level Set (apart_by_test 126 type_bytes refl) tt tt)
    (and_rows (later_kind r level Map (apart_by_test 37 type_bytes refl) tt tt)
    (and_rows (later_kind r level Attr (apart_by_test 124 type_bytes refl) tt tt)
    (and_rows (push_answered r level) tt)))))))))))))))
    (λ apart. other_answered r level byte apart)
