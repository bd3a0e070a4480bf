-- What holds of data with one more after them.
use Rattle.std.proofs.Common.{◌≡◌, ◌↔◌, ◌+◌, List, [], ◌∷◌, ◌++◌, length, max, refl, sym, ap, ◌∙◌, arith, append_assoc, append-nil, length-append}
use Rattle.resp_value.specs.Data.{Datum, Data, none, more, data_of_list, depth, greatest_depth, longest, longest_among, most_items, most_items_among}
use Rattle.resp_value.specs.Trees.{texts}
use Rattle.resp_value.specs.Canonical.{IsValue, AreValues, IsInTwo, AreInTwo, HasNoDouble, HaveNoDouble, HasNoPush, HaveNoPush, canonical_text, canonical_trees}
use Rattle.resp_value.specs.Values.{extended}
use Rattle.resp_value.specs.declared.version.Version.{Version}

pub data_of_list-push : (xs : List Datum) (x : Datum) → data_of_list (xs ++ x ∷ []) ≡ extended (data_of_list xs) x
data_of_list-push [] x = refl
data_of_list-push (y ∷ ys) x = ap (more y) (data_of_list-push ys x)

-- What is said of none, and of more where it is said of the first and of the others, is said of data with one more where
-- it is said of these and of that.
each_extended : (All : Data → Type 0) (One : Datum → Type 0) → All none →
    ((y : Datum) (ys : Data) → All (more y ys) ↔ (One y × All ys)) →
    (xs : Data) (x : Datum) → All (extended xs x) ↔ (All xs × One x)
each_extended All One empty step none x = (λ p. (empty, ((step x none).0 p).0), λ p. (step x none).1 (p.1, empty))
each_extended All One empty step (more y ys) x =
    let rest = each_extended All One empty step ys x in
    let split : All (more y (extended ys x)) → All (more y ys) × One x = λ p.
    let q = (step y (extended ys x)).0 p in
    let r = rest.0 q.1 in
    ((step y ys).1 (q.0, r.0), r.1) in
    let join : All (more y ys) × One x → All (more y (extended ys x)) = λ p.
    let q = (step y ys).0 p.0 in
    (step y (extended ys x)).1 (q.0, rest.1 (q.1, p.1)) in
    (split, join)

pub in_two_extended : (xs : Data) (x : Datum) → AreInTwo (extended xs x) ↔ (AreInTwo xs × IsInTwo x)
in_two_extended = each_extended AreInTwo IsInTwo tt (λ y ys. (λ p. p, λ p. p))

pub no_double_extended : (xs : Data) (x : Datum) → HaveNoDouble (extended xs x) ↔ (HaveNoDouble xs × HasNoDouble x)
no_double_extended = each_extended HaveNoDouble HasNoDouble tt (λ y ys. (λ p. p, λ p. p))

pub no_push_extended : (xs : Data) (x : Datum) → HaveNoPush (extended xs x) ↔ (HaveNoPush xs × HasNoPush x)
no_push_extended = each_extended HaveNoPush HasNoPush tt (λ y ys. (λ p. p, λ p. p))

pub values_with : (xs : Data) (x : Datum) → AreValues xs → IsValue x → AreValues (extended xs x)
values_with xs x p q = (each_extended AreValues IsValue tt (λ y ys. (λ p. p, λ p. p)) xs x).1 (p, q)

pub greatest_depth-extended : (xs : Data) (x : Datum) →
    greatest_depth (extended xs x) ≡ max (greatest_depth xs) (depth x)
greatest_depth-extended none x = omega arith
greatest_depth-extended (more y ys) x = omega (arith, greatest_depth-extended ys x)

pub longest_among-extended : (xs : Data) (x : Datum) →
    longest_among (extended xs x) ≡ max (longest_among xs) (longest x)
longest_among-extended none x = omega arith
longest_among-extended (more y ys) x = omega (arith, longest_among-extended ys x)

pub most_items_among-extended : (xs : Data) (x : Datum) → most_items_among (extended xs x) ≡
    max (most_items_among xs) (most_items x)
most_items_among-extended none x = omega arith
most_items_among-extended (more y ys) x = omega (arith, most_items_among-extended ys x)

pub texts-extended : (version : Version) (xs : Data) (x : Datum) → texts (canonical_trees version (extended xs x)) ≡
    texts (canonical_trees version xs) ++
    canonical_text version x
texts-extended version none x = append-nil (canonical_text version x)
texts-extended version (more y ys) x = ap (λ rest. canonical_text version y ++ rest) (texts-extended version ys x) ∙
    sym (append_assoc (canonical_text version y) (texts (canonical_trees version ys)) (canonical_text version x))

pub length-texts-extended : (version : Version) (xs : Data) (x : Datum) →
    length (texts (canonical_trees version (extended xs x))) ≡
    length (texts (canonical_trees version xs)) + length (canonical_text version x)
length-texts-extended version xs x = ap length (texts-extended version xs x) ∙
    length-append (texts (canonical_trees version xs)) (canonical_text version x)
