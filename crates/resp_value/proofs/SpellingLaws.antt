-- Spellings of values, cuts of texts, and canonical texts.
use Rattle.std.proofs.Common.{◌≡◌, ℕ, ◌≤◌, Bool, true, false, List, [], ◌∷◌, ◌++◌, refl, sym, ap, subst, ◌∙◌, arith, append_assoc}
use Rattle.resp_value.specs.Data.{Datum, aggregate, IsPush, depth, longest, most_items}
use Rattle.resp_value.specs.Trees.{Tree, leaf, node, text}
use Rattle.resp_value.specs.Data.{Array, Set, Map, Attr, Push}
use Rattle.resp_value.specs.TreeValues.{value, values}
use Rattle.resp_value.specs.Rules.{Rules, Rule, Grammar, NoDouble, InVersion, PushAtTop, InRange, NotStreamed, WithinDepth, WithinLength, WithinItems, WithinTotal, rank, Meets}
use Rattle.resp_value.specs.Spellings.{IsSpelling, AreSpellings}
use Rattle.resp_value.specs.Canonical.{canonical_tree, canonical_text, IsValue, HasNoDouble, Fits}
use Rattle.resp_value.specs.Laws.{ATextHasOneValue, NoSpellingBeginsAnother, NoSpellingIsEmpty, APushBeginsWithItsByte, ATextHasOneCut, VersionThreeSpellsWhatTwoDoes, CanonicalTextSpellsWhatFits, CanonicalTextTellsValuesApart, DoublesAreAllThatTheSwitchAdds, FrontsAreViableWithoutDoubles, with_doubles}
use Rattle.resp_value.specs.declared.version.Version.TheVariants.{Three}
use Rattle.resp_value.proofs.FirstBytes.{kind_of_byte, first_byte, begins, first_byte_is, leaf_is_no_push}
use Rattle.resp_value.proofs.Unique.{same_tree}
use Rattle.resp_value.proofs.CanonicalTrees.{value-canonical_tree, canonical_spells}
use Rattle.resp_value.proofs.KeptRules.{no_double_tree, canonical_in_range, canonical_counted, canonical_version, canonical_push}

-- two spellings that begin one text are one
pub no_spelling_begins_another : NoSpellingBeginsAnother
no_spelling_begins_another r s x y front front' rest rest' m n e =
    let t = same_tree m.tree n.tree front front' rest rest' m.spells n.spells e in
    (sym m.valued ∙ ap value t.0 ∙ n.valued, t.1, t.2)

-- a spelling has one value
pub a_text_has_one_value : ATextHasOneValue
a_text_has_one_value r s x y text m n = (no_spelling_begins_another r s x y text text [] [] m n refl).0

-- a tree's text isn't empty
pub text_not_empty : (t : Tree) → text t ≡ [] → ⊥
text_not_empty t e = let (cs, h) = begins t in let c : [] ≡ first_byte t ∷ cs = sym e ∙ h in absurd (cc)

pub no_spelling_is_empty : NoSpellingIsEmpty
no_spelling_is_empty r x m = text_not_empty m.tree m.spells.spelled

push_by_byte : (t : Tree) → first_byte t ≡ 62 → IsPush (value t)
push_by_byte (leaf l) e = absurd (leaf_is_no_push l e)
push_by_byte (node k form ts) e = subst (λ j. IsPush (aggregate j (values ts))) (sym (kind_of_byte k Push e)) tt

byte_of_push : (t : Tree) → IsPush (value t) → (rest : List ℕ) × (text t ≡ 62 ∷ rest)
byte_of_push (leaf l) h = absurd h
byte_of_push (node Array form ts) h = absurd h
byte_of_push (node Set form ts) h = absurd h
byte_of_push (node Map form ts) h = absurd h
byte_of_push (node Attr form ts) h = absurd h
byte_of_push (node Push form ts) h = (_, refl)

pub a_push_begins_with_its_byte : APushBeginsWithItsByte
a_push_begins_with_its_byte r x text m = (
  λ h. let (rest, e) = byte_of_push m.tree (subst IsPush (sym m.valued) h) in (rest, sym m.spells.spelled ∙ e),
  λ w. let e = first_byte_is m.tree [] (w.0 ++ []) 62 (ap (λ z. z ++ []) (m.spells.spelled ∙ w.1)) in
      subst IsPush m.valued (push_by_byte m.tree e),
)

-- no front of the rest is a spelling
abbrev NoMore : Rules → List ℕ → Type 0
NoMore r rest = (x : Datum) (next beyond : List ℕ) → IsSpelling r x next → rest ≡ next ++ beyond → ⊥

-- spellings up to where no more begins are the same
one_row : (r : Rules) (xs ys : List Datum) (p q a b : List ℕ) → AreSpellings r xs p → AreSpellings r ys q → p ++ a ≡ q ++ b → NoMore r a → NoMore r b →
    (xs ≡ ys) × (a ≡ b)
one_row r [] [] p q a b m n e h k =
    let m0 : p ≡ [] = m in
    let n0 : q ≡ [] = n in
    (refl, sym (ap (λ z. z ++ a) m0) ∙ e ∙ ap (λ z. z ++ b) n0)
one_row r [] (y ∷ ys) p q a b m n e h k =
    let (f, g, s, t, w) = n in
    let m0 : p ≡ [] = m in
    absurd (h y f (g ++ b) s (sym (ap (λ z. z ++ a) m0) ∙ e ∙ ap (λ z. z ++ b) w ∙ append_assoc f g b))
one_row r (x ∷ xs) [] p q a b m n e h k =
    let (f, g, s, t, w) = m in
    let n0 : q ≡ [] = n in
    absurd (k x f (g ++ a) s (sym (ap (λ z. z ++ b) n0) ∙ sym e ∙ ap (λ z. z ++ a) w ∙ append_assoc f g a))
one_row r (x ∷ xs) (y ∷ ys) p q a b m n e h k =
    let (f, g, s, t, w) = m in
    let (f2, g2, s2, t2, w2) = n in
    let e2 : f ++ (g ++ a) ≡ f2 ++ (g2 ++ b) = sym (ap (λ z. z ++ a) w ∙ append_assoc f g a) ∙ e ∙ ap (λ z. z ++ b) w2 ∙ append_assoc f2 g2 b in
    let u = no_spelling_begins_another r r x y f f2 (g ++ a) (g2 ++ b) s s2 e2 in
    let i = one_row r xs ys g g2 a b t t2 u.2 h k in
    let u0 : x ≡ y = u.0 in
    let i0 : xs ≡ ys = i.0 in
    (cc, i.1)

pub a_text_has_one_cut : ATextHasOneCut
a_text_has_one_cut r text xs ys rest rest' m n = one_row r xs ys m.front n.front rest rest' m.spelled n.spelled (sym m.whole ∙ n.whole) m.no_more n.no_more

pub canonical_text_tells_values_apart : CanonicalTextTellsValuesApart
canonical_text_tells_values_apart w x y p q has has' = (
  λ e. ap (canonical_text w) e,
  λ e. let t = same_tree (canonical_tree w x) (canonical_tree w y) _ _ [] [] (canonical_spells w x p) (canonical_spells w y q) (ap (λ z. z ++ []) e) in
      sym (value-canonical_tree w x p) ∙ ap value t.0 ∙ value-canonical_tree w y q,
)

-- version 3 has what version 2 has
meets_in_three : (r : Rules) (rule : Rule) (t : Tree) → Meets r rule t → Meets (record r { version = Three }) rule t
meets_in_three r Grammar t p = p
meets_in_three r NoDouble t p = p
meets_in_three r InVersion t p = tt
meets_in_three r PushAtTop t p = p
meets_in_three r InRange t p = p
meets_in_three r NotStreamed t p = p
meets_in_three r WithinDepth t p = p
meets_in_three r WithinLength t p = p
meets_in_three r WithinItems t p = p
meets_in_three r WithinTotal t p = p

pub version_three_spells_what_two_does : VersionThreeSpellsWhatTwoDoes
version_three_spells_what_two_does r x text is_two s = record {
  tree = s.tree;
  spells = s.spells;
  keeps = λ rule h. meets_in_three r rule s.tree (s.keeps rule h);
  valued = s.valued;
}

-- the canonical tree of what fits meets each rule
canonical_meets : (r : Rules) (x : Datum) → IsValue x → Fits r x → (rule : Rule) → Meets r rule (canonical_tree r.version x)
canonical_meets r x p f Grammar = tt
canonical_meets r x p f NoDouble = λ off. (no_double_tree (canonical_tree r.version x)).1
    (subst HasNoDouble (sym (value-canonical_tree r.version x p)) (f.allows_doubles off))
canonical_meets r x p f InVersion = (canonical_version r.version x).0 f.has_types
canonical_meets r x p f PushAtTop = (canonical_push r.version x).0 f.push_at_top
canonical_meets r x p f InRange = canonical_in_range r.version x p
canonical_meets r x p f NotStreamed = λ switched_off. canonical_counted r.version x p
canonical_meets r x p f WithinDepth = subst (λ y. depth y ≤ r.limits.depth) (sym (value-canonical_tree r.version x p)) f.within_depth
canonical_meets r x p f WithinLength = subst (λ y. longest y ≤ r.limits.length) (sym (value-canonical_tree r.version x p)) f.within_length
canonical_meets r x p f WithinItems = subst (λ y. most_items y ≤ r.limits.items) (sym (value-canonical_tree r.version x p)) f.within_items
canonical_meets r x p f WithinTotal = f.within_total

-- a value whose canonical tree keeps the rules fits them
canonical_fits : (r : Rules) (x : Datum) → IsValue x → ((rule : Rule) → Meets r rule (canonical_tree r.version x)) → Fits r x
canonical_fits r x p meets = record {
  allows_doubles = λ off. subst HasNoDouble (value-canonical_tree r.version x p) ((no_double_tree (canonical_tree r.version x)).0 (meets NoDouble off));
  has_types = (canonical_version r.version x).1 (meets InVersion);
  push_at_top = (canonical_push r.version x).1 (meets PushAtTop);
  within_depth = subst (λ y. depth y ≤ r.limits.depth) (value-canonical_tree r.version x p) (meets WithinDepth);
  within_length = subst (λ y. longest y ≤ r.limits.length) (value-canonical_tree r.version x p) (meets WithinLength);
  within_items = subst (λ y. most_items y ≤ r.limits.items) (value-canonical_tree r.version x p) (meets WithinItems);
  within_total = meets WithinTotal;
}

-- no rule comes after the last one
pub up_to_total : (rule : Rule) → rank rule ≤ rank WithinTotal
up_to_total Grammar = omega arith
up_to_total NoDouble = omega arith
up_to_total InVersion = omega arith
up_to_total PushAtTop = omega arith
up_to_total InRange = omega arith
up_to_total NotStreamed = omega arith
up_to_total WithinDepth = omega arith
up_to_total WithinLength = omega arith
up_to_total WithinItems = omega arith
up_to_total WithinTotal = omega arith

pub canonical_text_spells_what_fits : CanonicalTextSpellsWhatFits
canonical_text_spells_what_fits r x p = (
  λ s. let t = same_tree s.tree (canonical_tree r.version x) _ _ [] [] s.spells (canonical_spells r.version x p) refl in
      canonical_fits r x p (λ rule. subst (λ u. Meets r rule u) t.0 (s.keeps rule (up_to_total rule))),
  λ f. record {
    tree = canonical_tree r.version x;
    spells = canonical_spells r.version x p;
    keeps = λ rule h. canonical_meets r x p f rule;
    valued = value-canonical_tree r.version x p;
  },
)

-- what each rule says of a tree without doubles, whether doubles are allowed or not
meets_with_doubles : (r : Rules) (one other : Bool) (rule : Rule) (t : Tree) → HasNoDouble (value t) → Meets (with_doubles r one) rule t →
    Meets (with_doubles r other) rule t
meets_with_doubles r one other Grammar t none p = p
meets_with_doubles r one other NoDouble t none p = λ off. (no_double_tree t).1 none
meets_with_doubles r one other InVersion t none p = p
meets_with_doubles r one other PushAtTop t none p = p
meets_with_doubles r one other InRange t none p = p
meets_with_doubles r one other NotStreamed t none p = p
meets_with_doubles r one other WithinDepth t none p = p
meets_with_doubles r one other WithinLength t none p = p
meets_with_doubles r one other WithinItems t none p = p
meets_with_doubles r one other WithinTotal t none p = p

pub doubles_are_all_that_the_switch_adds : DoublesAreAllThatTheSwitchAdds
doubles_are_all_that_the_switch_adds r x text = (
  λ s. let none : HasNoDouble (value s.tree) = (no_double_tree s.tree).0 (s.keeps NoDouble (omega arith) refl) in (
    record {
      tree = s.tree;
      spells = s.spells;
      keeps = λ rule h. meets_with_doubles r false true rule s.tree none (s.keeps rule h);
      valued = s.valued;
    },
    subst HasNoDouble s.valued none,
  ),
  λ w. let s = w.0 in record {
    tree = s.tree;
    spells = s.spells;
    keeps = λ rule h. meets_with_doubles r true false rule s.tree (subst HasNoDouble (sym s.valued) w.1) (s.keeps rule h);
    valued = s.valued;
  },
)

pub fronts_are_viable_without_doubles : FrontsAreViableWithoutDoubles
fronts_are_viable_without_doubles r rule front later = (
  λ v. let none : HasNoDouble (value v.tree) = (no_double_tree v.tree).0 (v.keeps NoDouble later refl) in record {
    rest = v.rest;
    tree = v.tree;
    spells = v.spells;
    keeps = λ earlier h. meets_with_doubles r false true earlier v.tree none (v.keeps earlier h);
    no_double = none;
  },
  λ g. record {
    rest = g.rest;
    tree = g.tree;
    spells = g.spells;
    keeps = λ earlier h. meets_with_doubles r true false earlier g.tree g.no_double (g.keeps earlier h);
  },
)
