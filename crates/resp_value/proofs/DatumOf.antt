-- The datum of an aggregate of the program, by the lists of its members.
use Rattle.std.specs.declared.boxed.Box.{Box}
use Rattle.std.proofs.Common.{Global, ◌≡◌, ◌+◌, ◌/◌, length, arith, add-one, length-append, List, [], ◌∷◌, ◌++◌, map, refl, ap, ◌∙◌}
use Rattle.resp_value.specs.Data.{Datum, more, aggregate, data_of_list, in_turn, count}
use Rattle.resp_value.specs.Data as d
use Rattle.resp_value.specs.Canonical.{IsValue, AreValues}
use Rattle.resp_value.specs.Values.{datum_of, data_of_row, data_of_pairs, extended, list_of, pairs_of, pair_data}
use Rattle.resp_value.specs.declared.value.Value.{Value, Row_of-Value, end_of-Value, more_of-Value, Row_of-PairList-pairs-2, end_of-PairList-pairs-2, more_of-PairList-pairs-2, items-the_row-Value, items_hidden-the_row-Value-0, items-the_row-PairList-pairs-2, items_hidden-the_row-PairList-pairs-2-1}
use Rattle.resp_value.specs.declared.value.Value.TheBlock.{hidden-the_row-Value-0, hidden-the_row-PairList-pairs-2-1}
use Rattle.resp_value.specs.declared.value.Value.TheVariants.{Array, Set, Map, Attr, Push}
use Rattle.resp_value.specs.declared.value.Members.{Members}
use Rattle.resp_value.specs.declared.value.PairList.{PairList}

data_of_row-items : {m : _} (row : Row_of-Value m) → data_of_row row ≡ data_of_list (map datum_of (items-the_row-Value _ row))
data_of_row-items end_of-Value = refl
data_of_row-items (more_of-Value x rest) = ap (more (datum_of x)) (data_of_row-items rest)

data_of_pairs-items : {m : _} (row : Row_of-PairList-pairs-2 m) →
    data_of_pairs row ≡ data_of_list (in_turn (map pair_data (items-the_row-PairList-pairs-2 _ row)))
data_of_pairs-items end_of-PairList-pairs-2 = refl
data_of_pairs-items (more_of-PairList-pairs-2 k x rest) = ap (λ xs. more (datum_of k) (more (datum_of x) xs)) (data_of_pairs-items rest)

-- the members of an array, a set or a push, by their list
members_data : (members : Members) → data_of_row (hidden-the_row-Value-0 members.items) ≡ data_of_list (map datum_of (list_of members))
members_data members = data_of_row-items (hidden-the_row-Value-0 members.items) ∙
    ap (λ xs. data_of_list (map datum_of xs)) (items_hidden-the_row-Value-0 members.items)

-- the keys and values of a map or an attribute, by the list of its pairs
pairs_data : (pairs : PairList) → data_of_pairs (hidden-the_row-PairList-pairs-2-1 pairs.pairs) ≡ data_of_list (in_turn (map pair_data (pairs_of pairs)))
pairs_data pairs = data_of_pairs-items (hidden-the_row-PairList-pairs-2-1 pairs.pairs) ∙
    ap (λ xs. data_of_list (in_turn (map pair_data xs))) (items_hidden-the_row-PairList-pairs-2-1 pairs.pairs)

extended-data_of_list : (xs : List Datum) (x : Datum) → extended (data_of_list xs) x ≡ data_of_list (xs ++ x ∷ [])
extended-data_of_list [] x = refl
extended-data_of_list (y ∷ ys) x = ap (more y) (extended-data_of_list ys x)

-- the datum of an array
pub datum_of-Array : (members : Members) → datum_of (Array members) ≡ aggregate d.Array (data_of_list (map datum_of (list_of members)))
datum_of-Array members = ap (aggregate d.Array) (members_data members)

-- the datum of a set
pub datum_of-Set : (members : Members) → datum_of (Set members) ≡ aggregate d.Set (data_of_list (map datum_of (list_of members)))
datum_of-Set members = ap (aggregate d.Set) (members_data members)

-- the datum of a push
pub datum_of-Push : (members : Members) → datum_of (Push members) ≡ aggregate d.Push (data_of_list (map datum_of (list_of members)))
datum_of-Push members = ap (aggregate d.Push) (members_data members)

-- the datum of a map
pub datum_of-Map : (pairs : PairList) → datum_of (Map pairs) ≡ aggregate d.Map (data_of_list (in_turn (map pair_data (pairs_of pairs))))
datum_of-Map pairs = ap (aggregate d.Map) (pairs_data pairs)

-- the datum of an attribute and the value that it annotates
pub datum_of-Attr : (pairs : PairList) (annotated : Box Value Global) →
    datum_of (Attr pairs annotated) ≡ aggregate d.Attr (data_of_list (in_turn (map pair_data (pairs_of pairs)) ++ datum_of annotated.value ∷ []))
datum_of-Attr pairs annotated = ap (aggregate d.Attr) (ap (λ xs. extended xs (datum_of annotated.value)) (pairs_data pairs) ∙
    extended-data_of_list (in_turn (map pair_data (pairs_of pairs))) (datum_of annotated.value))

-- how many data a list makes
pub count-data_of_list : (xs : List Datum) → count (data_of_list xs) ≡ length xs
count-data_of_list [] = refl
count-data_of_list (x ∷ xs) = ap (λ n. n + 1) (count-data_of_list xs) ∙ add-one (length xs)

-- pairs make twice as many members
pub length-in_turn : (pairs : List (Datum × Datum)) → length (in_turn pairs) ≡ length pairs + length pairs
length-in_turn [] = refl
length-in_turn (pair ∷ pairs) = omega (arith, length-in_turn pairs)

-- the keys and values of a map are whole pairs
pub in_turn_is_whole : (pairs : List (Datum × Datum)) → count (data_of_list (in_turn pairs)) / 2 + count (data_of_list (in_turn pairs)) / 2 ≡
    count (data_of_list (in_turn pairs))
in_turn_is_whole pairs = omega (arith, count-data_of_list (in_turn pairs), length-in_turn pairs)

-- the members of an attribute are whole pairs and one value
pub annotated_is_whole : (pairs : List (Datum × Datum)) (x : Datum) →
    count (data_of_list (in_turn pairs ++ x ∷ [])) / 2 + count (data_of_list (in_turn pairs ++ x ∷ [])) / 2 + 1 ≡ count (data_of_list (in_turn pairs ++ x ∷ []))
annotated_is_whole pairs x = omega (arith, count-data_of_list (in_turn pairs ++ x ∷ []), length-append (in_turn pairs) (x ∷ []), length-in_turn pairs)

-- values and one more are values
pub are_values_with : (xs : List Datum) (x : Datum) → AreValues (data_of_list xs) → IsValue x → AreValues (data_of_list (xs ++ x ∷ []))
are_values_with [] x p q = (q, tt)
are_values_with (y ∷ ys) x p q = (p.0, are_values_with ys x p.1 q)
