-- The lines of aggregates, part after part.
use Rattle.std.proofs.Common.{Global, Option, Result, ◌≡◌, ◌≢◌, ◌≤◌, ◌<◌, ◌+◌, ◌/◌, ℕ, suc, List, [], ◌∷◌, ◌++◌, map, length, drop, get_or, max, codes, decimal, refl, sym, ap, subst, ◌∙◌, append_assoc, length-append, arith}
use Rattle.std.proofs.lemmas.List.{at_drop_more, length-map}
use Rattle.resp_value.specs.Data.{Kind, Array, Set, Map, Attr, Push, Datum, Data, aggregate, more, data_of_list, count, items_of, depth, greatest_depth, in_turn}
use Rattle.std.specs.declared.boxed.Box.{Box}
use Rattle.resp_value.specs.Values.{datum_of, pair_data, pairs_of}
use Rattle.resp_value.proofs.DatumOf.{count-data_of_list, datum_of-Attr, length-in_turn}
use Rattle.resp_value.specs.declared.value.PairList.{PairList}
use Rattle.resp_value.specs.declared.value.Value.TheVariants as value
use Rattle.resp_value.specs.declared.value.Value.{Value}
use Rattle.resp_print.specs.declared.print_error.PrintError.{PrintError}
use Rattle.resp_print.proofs.Printing.{prints_as}
use Rattle.resp_print.specs.Kept.{MembersFor, ValueFor}
use Rattle.resp_print.proofs.Kept.{NextFor, as_many, last_for, members_for, next_for}
use Rattle.resp_print.specs.Printed.{Prints, annotating_front, end_line, first_line, group_lines}
use Rattle.resp_print.specs.Shown.{indentation, kind_word, lines_within, member_lines_within, annotating_lines_within}

-- the lines of an aggregate, one part after another
parts : (ind words newline members number : List ℕ) →
    (((((ind ++ words) ++ newline) ++ members) ++ ind) ++ codes "end ") ++ number ++ newline ≡
    (ind ++ (words ++ newline)) ++ (members ++ (ind ++ ((codes "end " ++ number) ++ newline)))
parts ind words newline members number = simp append_assoc

-- the lines of an aggregate that is no attribute
pub group_shown : (most : Option ℕ) → (level : ℕ) (k : Kind) (xs : Data) (n : ℕ) → k ≢ Attr → items_of k (count xs) ≡ n →
    group_lines level (kind_word k ++ codes "\n") (member_lines_within most (suc level) xs) n ≡ lines_within most level (aggregate k xs)
group_shown most level Array xs n other e = ap (λ m. group_lines level (codes "array\n") (member_lines_within most (suc level) xs) m) (sym e) ∙
    sym (parts (indentation level) (codes "array") (codes "\n") (member_lines_within most (suc level) xs) (decimal (items_of Array (count xs))))
group_shown most level Set xs n other e = ap (λ m. group_lines level (codes "set\n") (member_lines_within most (suc level) xs) m) (sym e) ∙
    sym (parts (indentation level) (codes "set") (codes "\n") (member_lines_within most (suc level) xs) (decimal (items_of Set (count xs))))
group_shown most level Map xs n other e = ap (λ m. group_lines level (codes "map\n") (member_lines_within most (suc level) xs) m) (sym e) ∙
    sym (parts (indentation level) (codes "map") (codes "\n") (member_lines_within most (suc level) xs) (decimal (items_of Map (count xs))))
group_shown most level Push xs n other e = ap (λ m. group_lines level (codes "push\n") (member_lines_within most (suc level) xs) m) (sym e) ∙
    sym (parts (indentation level) (codes "push") (codes "\n") (member_lines_within most (suc level) xs) (decimal (items_of Push (count xs))))
group_shown most level Attr xs n other e = absurd (other refl)

annotating_parts : (most : Option ℕ) → (level : ℕ) (xs : List Datum) (x : Datum) → annotating_lines_within most level (data_of_list (xs ++ x ∷ [])) ≡
    member_lines_within most (suc level) (data_of_list xs) ++ (first_line level (codes "of\n") ++ lines_within most (suc level) x)
annotating_parts most level [] x = refl
annotating_parts most level (y ∷ []) x = simp append_assoc
annotating_parts most level (y ∷ (z ∷ zs)) x =
    ap (λ w. lines_within most (suc level) y ++ w) (annotating_parts most level (z ∷ zs) x) ∙
    sym (append_assoc (lines_within most (suc level) y) (member_lines_within most (suc level) (data_of_list (z ∷ zs))) (first_line level (codes "of\n") ++ lines_within most (suc level) x))

attribute_parts : (ind pairs of lines number : List ℕ) →
    (ind ++ codes "attr\n") ++ (pairs ++ (ind ++ of)) ++ (lines ++ (ind ++ (codes "end " ++ number ++ codes "\n"))) ≡
    (ind ++ codes "attr\n") ++ (pairs ++ ((ind ++ of) ++ lines)) ++ ind ++ codes "end " ++ number ++ codes "\n"
attribute_parts ind pairs of lines number = simp append_assoc

-- the lines of an attribute, up to the annotated value and from there
pub attribute_shown : (most : Option ℕ) → (level : ℕ) (xs : List Datum) (x : Datum) (n : ℕ) → items_of Attr (count (data_of_list (xs ++ x ∷ []))) ≡ n →
    annotating_front level (member_lines_within most (suc level) (data_of_list xs)) ++ (lines_within most (suc level) x ++ end_line level n) ≡
    lines_within most level (aggregate Attr (data_of_list (xs ++ x ∷ [])))
attribute_shown most level xs x n e =
    let ind = indentation level in
    ap (λ m. annotating_front level (member_lines_within most (suc level) (data_of_list xs)) ++ (lines_within most (suc level) x ++ end_line level m)) (sym e) ∙
    attribute_parts ind (member_lines_within most (suc level) (data_of_list xs)) (codes "of\n") (lines_within most (suc level) x) (decimal (items_of Attr (count (data_of_list (xs ++ x ∷ []))))) ∙
    ap (λ z. ind ++ codes "attr\n" ++ z ++ ind ++ codes "end " ++ decimal (items_of Attr (count (data_of_list (xs ++ x ∷ [])))) ++ codes "\n") (sym (annotating_parts most level xs x))

-- the depths of data and of the last one
pub greatest_depth-last : (xs : List Datum) (x : Datum) → depth x ≤ greatest_depth (data_of_list (xs ++ x ∷ []))
greatest_depth-last [] x = omega arith
greatest_depth-last (y ∷ ys) x = omega (arith, greatest_depth-last ys x)

pub greatest_depth-front : (xs : List Datum) (x : Datum) → greatest_depth (data_of_list xs) ≤ greatest_depth (data_of_list (xs ++ x ∷ []))
greatest_depth-front [] x = omega arith
greatest_depth-front (y ∷ ys) x = omega (arith, greatest_depth-front ys x)

-- the next member stands for the next, and the others for the others
pub next_member : (most : Option ℕ) (lengths : List ℕ) (xs : List Value) (i : ℕ) (x : Value) (ws : Data) (rest : List ℕ) → i < length xs →
    x ≡ get_or xs i x → MembersFor most lengths (data_of_list (map datum_of (drop i xs))) ws rest →
    NextFor most lengths (datum_of x) (data_of_list (map datum_of (drop (i + 1) xs))) ws rest
next_member most lengths xs i x ws rest below is for =
    let F = λ (ys : List Value). data_of_list (map datum_of ys) in
    let split : F (drop i xs) ≡ more (datum_of x) (F (drop (i + 1) xs)) =
    at_drop_more F xs i x below ∙ ap (λ y. more (datum_of y) (F (drop (i + 1) xs))) (sym is) in
    next_for most lengths (datum_of x) (F (drop (i + 1) xs)) ws rest (subst (λ ys. MembersFor most lengths ys ws rest) split for)

-- their depths
pub next_depth : (xs : List Value) (i : ℕ) (x : Value) → i < length xs → x ≡ get_or xs i x →
    (depth (datum_of x) ≤ greatest_depth (data_of_list (map datum_of (drop i xs)))) ×
    (greatest_depth (data_of_list (map datum_of (drop (i + 1) xs))) ≤ greatest_depth (data_of_list (map datum_of (drop i xs))))
next_depth xs i x below is =
    let F = λ (ys : List Value). greatest_depth (data_of_list (map datum_of ys)) in
    let e : F (drop i xs) ≡ max (depth (datum_of x)) (F (drop (i + 1) xs)) =
    at_drop_more F xs i x below ∙ ap (λ y. max (depth (datum_of y)) (F (drop (i + 1) xs))) (sym is) in
    (omega (arith, e), omega (arith, e))

-- the next key stands for the next, and its value and the others for those
pub next_pair : (most : Option ℕ) (lengths : List ℕ) (xs : List (Value × Value)) (i : ℕ) (x : Value × Value) (ws : Data) (rest : List ℕ) → i < length xs →
    x ≡ get_or xs i x → MembersFor most lengths (data_of_list (in_turn (map pair_data (drop i xs)))) ws rest →
    NextFor most lengths (datum_of x.0) (more (datum_of x.1) (data_of_list (in_turn (map pair_data (drop (i + 1) xs))))) ws rest
next_pair most lengths xs i x ws rest below is for =
    let F = λ (ys : List (Value × Value)). data_of_list (in_turn (map pair_data ys)) in
    let split : F (drop i xs) ≡ more (datum_of x.0) (more (datum_of x.1) (F (drop (i + 1) xs))) =
    at_drop_more F xs i x below ∙ ap (λ (y : Value × Value). more (datum_of y.0) (more (datum_of y.1) (F (drop (i + 1) xs)))) (sym is) in
    next_for most lengths (datum_of x.0) (more (datum_of x.1) (F (drop (i + 1) xs))) ws rest (subst (λ ys. MembersFor most lengths ys ws rest) split for)

-- their depths
pub next_pair_depth : (xs : List (Value × Value)) (i : ℕ) (x : Value × Value) → i < length xs → x ≡ get_or xs i x →
    (depth (datum_of x.0) ≤ greatest_depth (data_of_list (in_turn (map pair_data (drop i xs))))) ×
    (depth (datum_of x.1) ≤ greatest_depth (data_of_list (in_turn (map pair_data (drop i xs))))) ×
    (greatest_depth (data_of_list (in_turn (map pair_data (drop (i + 1) xs)))) ≤ greatest_depth (data_of_list (in_turn (map pair_data (drop i xs)))))
next_pair_depth xs i x below is =
    let F = λ (ys : List (Value × Value)). greatest_depth (data_of_list (in_turn (map pair_data ys))) in
    let e : F (drop i xs) ≡ max (depth (datum_of x.0)) (max (depth (datum_of x.1)) (F (drop (i + 1) xs))) =
    at_drop_more F xs i x below ∙ ap (λ (y : Value × Value). max (depth (datum_of y.0)) (max (depth (datum_of y.1)) (F (drop (i + 1) xs)))) (sym is) in
    (omega (arith, e), omega (arith, e), omega (arith, e))

-- what was printed of an aggregate that counts its members one by one
pub group_printed : (most : Option ℕ) (r : Result (Unit {0}) PrintError) (a b : Option (List ℕ)) (f g level : ℕ) (k : Kind) (v : Value) (members : List Value)
    (lengths : List ℕ) (x : Datum) (rest : List ℕ) (Q : Type 0) → k ≢ Attr → ((n : ℕ) → items_of k n ≡ n) →
    aggregate k (data_of_list (map datum_of members)) ≡ datum_of v → ValueFor most lengths (datum_of v) x rest →
    ((xs : Data) → MembersFor most lengths (data_of_list (map datum_of members)) xs rest →
    Prints a b f g r (group_lines level (kind_word k ++ codes "\n") (member_lines_within most (suc level) xs) (length members))
    (level + (greatest_depth (data_of_list (map datum_of members)) + 1)) × Q) → Prints a b f g r (lines_within most level x) (level + depth (datum_of v)) × Q
group_printed most r a b f g level k v members lengths x rest Q other each is given printed =
    let ys = data_of_list (map datum_of members) in
    let (xs, whole, for) = members_for most lengths k ys x rest (subst (λ z. ValueFor most lengths z x rest) (sym is) given) in
    let p = printed xs for in
    let counted = each (count xs) ∙ as_many most lengths ys xs rest for ∙ count-data_of_list (map datum_of members) ∙ length-map members datum_of in (
      prints_as r a b f g _ (lines_within most level x) (level + (greatest_depth ys + 1)) (level + depth (datum_of v))
          (group_shown most level k xs (length members) other counted ∙ ap (lines_within most level) (sym whole)) (omega (arith, ap depth is)) p.0,
      p.1,
    )

-- what was printed of a map
pub map_printed : (most : Option ℕ) (r : Result (Unit {0}) PrintError) (a b : Option (List ℕ)) (f g level : ℕ) (v : Value) (pairs : List (Value × Value))
    (lengths : List ℕ) (x : Datum) (rest : List ℕ) (Q : Type 0) → aggregate Map (data_of_list (in_turn (map pair_data pairs))) ≡ datum_of v →
    ValueFor most lengths (datum_of v) x rest →
    ((xs : Data) → MembersFor most lengths (data_of_list (in_turn (map pair_data pairs))) xs rest →
    Prints a b f g r (group_lines level (codes "map\n") (member_lines_within most (suc level) xs) (length pairs))
    (level + (greatest_depth (data_of_list (in_turn (map pair_data pairs))) + 1)) × Q) → Prints a b f g r (lines_within most level x) (level + depth (datum_of v)) × Q
map_printed most r a b f g level v pairs lengths x rest Q is given printed =
    let ys = data_of_list (in_turn (map pair_data pairs)) in
    let (xs, whole, for) = members_for most lengths Map ys x rest (subst (λ z. ValueFor most lengths z x rest) (sym is) given) in
    let p = printed xs for in
    let counted : count xs / 2 ≡ length pairs = omega (
      arith,
      as_many most lengths ys xs rest for,
      count-data_of_list (in_turn (map pair_data pairs)),
      length-in_turn (map pair_data pairs),
      length-map pairs pair_data,
    ) in (
      prints_as r a b f g _ (lines_within most level x) (level + (greatest_depth ys + 1)) (level + depth (datum_of v))
          (group_shown most level Map xs (length pairs) (λ e. absurd (cc)) counted ∙ ap (lines_within most level) (sym whole)) (omega (arith, ap depth is)) p.0,
      p.1,
    )

-- the datum of an attribute
pub attribute_is : (v : Value) (pairs : PairList) (annotated : Box Value Global) (ps : List (Value × Value)) → ps ≡ pairs_of pairs →
    v ≡ value.Attr pairs annotated → aggregate Attr (data_of_list (in_turn (map pair_data ps) ++ datum_of annotated.value ∷ [])) ≡ datum_of v
attribute_is v pairs annotated ps same is =
    ap (λ qs. aggregate Attr (data_of_list (in_turn (map pair_data qs) ++ datum_of annotated.value ∷ []))) same ∙
    sym (ap datum_of is ∙ datum_of-Attr pairs annotated)

-- an attribute stands for one, whose pairs and whose annotated value are printed one level deeper
pub record AttributeFor (most : Option ℕ) (lengths : List ℕ) (level deeper : ℕ) (ps : List (Value × Value)) (y x : Datum) (rest : List ℕ) : Type 0 where
  pub front : Data
  pub last : Datum
  pub between : List ℕ
  pub front_for : MembersFor most lengths (data_of_list (in_turn (map pair_data ps))) front between
  pub last_for : ValueFor most between y last rest
  pub shown : annotating_front level (member_lines_within most deeper front) ++ (lines_within most deeper last ++ end_line level (length ps)) ≡
      lines_within most level x

pub attribute_for : (most : Option ℕ) (lengths : List ℕ) (level deeper : ℕ) (ps : List (Value × Value)) (y : Datum) (v : Value) (x : Datum) (rest : List ℕ) →
    deeper ≡ suc level → aggregate Attr (data_of_list (in_turn (map pair_data ps) ++ y ∷ [])) ≡ datum_of v → ValueFor most lengths (datum_of v) x rest →
    AttributeFor most lengths level deeper ps y x rest
attribute_for most lengths level deeper ps y v x rest is same given =
    let us = in_turn (map pair_data ps) in
    let ys = data_of_list (us ++ y ∷ []) in
    let (xs, whole, for) = members_for most lengths Attr ys x rest (subst (λ z. ValueFor most lengths z x rest) (sym same) given) in
    let l = last_for most lengths us y xs rest for in
    let counted : count (data_of_list (l.front ++ l.last ∷ [])) / 2 ≡ length ps = omega (
      arith,
      ap count l.whole,
      as_many most lengths ys xs rest for,
      count-data_of_list (us ++ y ∷ []),
      length-append us (y ∷ []),
      length-in_turn (map pair_data ps),
      length-map ps pair_data,
    ) in
    record {
      front = data_of_list l.front;
      last = l.last;
      between = l.between;
      front_for = l.front_for;
      last_for = l.last_for;
      shown = ap (λ m. annotating_front level (member_lines_within most m (data_of_list l.front)) ++ (lines_within most m l.last ++ end_line level (length ps))) is
          ∙ attribute_shown most level l.front l.last (length ps) counted
          ∙ ap (λ zs. lines_within most level (aggregate Attr zs)) (sym l.whole)
          ∙ ap (lines_within most level) (sym whole);
    }
