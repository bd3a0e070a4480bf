-- The data of a map and of an attribute, at equal parts.
use Rattle.std.proofs.Common.{◌≡◌, List, ◌++◌, ◌∷◌, [], map, ap, ◌∙◌}
use Rattle.resp_value.specs.Data.{data_of_list, in_turn, aggregate}
use Rattle.resp_value.specs.Data as d
use Rattle.resp_value.specs.Values.{datum_of, pair_data}
use Rattle.resp_value.specs.declared.value.Value.{Value}

pub map_data : {ps qs : List (Value × Value)} → ps ≡ qs → aggregate d.Map (data_of_list (in_turn (map pair_data ps))) ≡
    aggregate d.Map (data_of_list (in_turn (map pair_data qs)))
map_data same = ap (λ ps. aggregate d.Map (data_of_list (in_turn (map pair_data ps)))) same

pub attr_data : {ps qs : List (Value × Value)} {x y : Value} → ps ≡ qs → x ≡ y →
    aggregate d.Attr (data_of_list (in_turn (map pair_data ps) ++ datum_of x ∷ [])) ≡
    aggregate d.Attr (data_of_list (in_turn (map pair_data qs) ++ datum_of y ∷ []))
attr_data {qs = qs} {x = x} same under = ap (λ ps. aggregate d.Attr
    (data_of_list (in_turn (map pair_data ps) ++ datum_of x ∷ []))) same ∙
    ap (λ z. aggregate d.Attr (data_of_list (in_turn (map pair_data qs) ++ datum_of z ∷ []))) under
