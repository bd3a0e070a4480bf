use Rattle.std.proofs.Common.{◌≡◌, ◌++◌, ◌∷◌, [], map, sym, ap, ◌∙◌}
use Rattle.resp_value.specs.Values.{datum_of, pairs_of, pair_data}
use Rattle.resp_value.specs.Data.{data_of_list, in_turn, aggregate}
use Rattle.resp_value.specs.Data as d
use Rattle.resp_value.proofs.DatumOf.{datum_of-Array, datum_of-Set, datum_of-Push, datum_of-Map, datum_of-Attr}
use Rattle.resp_value.proofs.value.+copy.Goals as goal

pub Value::try_clone-returns-in_ok-copy_members-in-Array : goal.Value::try_clone-returns-in_ok-copy_members-in-Array
Value::try_clone-returns-in_ok-copy_members-in-Array t c =
    datum_of-Array _ ∙ ap (λ xs. aggregate d.Array (data_of_list xs)) c.in_ok-copy_members-in-Array.ensures ∙
    sym (ap datum_of c.in-Array.is ∙ datum_of-Array c.in-Array.members)

pub Value::try_clone-returns-in_ok-copy_members-in-Set : goal.Value::try_clone-returns-in_ok-copy_members-in-Set
Value::try_clone-returns-in_ok-copy_members-in-Set t c =
    datum_of-Set _ ∙ ap (λ xs. aggregate d.Set (data_of_list xs)) c.in_ok-copy_members-in-Set.ensures ∙
    sym (ap datum_of c.in-Set.is ∙ datum_of-Set c.in-Set.members)

pub Value::try_clone-returns-in_ok-copy_members-in-Push : goal.Value::try_clone-returns-in_ok-copy_members-in-Push
Value::try_clone-returns-in_ok-copy_members-in-Push t c =
    datum_of-Push _ ∙ ap (λ xs. aggregate d.Push (data_of_list xs)) c.in_ok-copy_members-in-Push.ensures ∙
    sym (ap datum_of c.in-Push.is ∙ datum_of-Push c.in-Push.members)

pub Value::try_clone-returns-in_ok-copy_pairs-in-Map : goal.Value::try_clone-returns-in_ok-copy_pairs-in-Map
Value::try_clone-returns-in_ok-copy_pairs-in-Map t c =
    datum_of-Map _ ∙ ap (λ xs. aggregate d.Map (data_of_list (in_turn xs))) c.in_ok-copy_pairs-in-Map.ensures ∙
    sym (ap datum_of c.in-Map.is ∙ datum_of-Map c.in-Map.pairs)

pub Value::try_clone-returns-in_ok-new-in-Attr : goal.Value::try_clone-returns-in_ok-new-in-Attr
Value::try_clone-returns-in_ok-new-in-Attr t c =
    let same_pairs : map pair_data (pairs_of c.in_ok-pairs-in-Attr.pairs) ≡ map pair_data (pairs_of c.in-Attr.pairs) = c.in_ok-pairs-in-Attr.ensures in
    let same_value : datum_of c.in_ok-new-in-Attr.field-0.value ≡ datum_of c.in-Attr.value.value =
    ap datum_of c.in_ok-new-in-Attr.ensures.ok ∙ c.in_ok-value-in-Attr.ensures ∙ ap datum_of c.deref.ensures in
    datum_of-Attr c.in_ok-pairs-in-Attr.pairs c.in_ok-new-in-Attr.field-0
    ∙ ap (λ ps. aggregate d.Attr (data_of_list (in_turn ps ++ datum_of c.in_ok-new-in-Attr.field-0.value ∷ []))) same_pairs
    ∙ ap (λ x. aggregate d.Attr (data_of_list (in_turn (map pair_data (pairs_of c.in-Attr.pairs)) ++ x ∷ []))) same_value
    ∙ sym (ap datum_of c.in-Attr.is ∙ datum_of-Attr c.in-Attr.pairs c.in-Attr.value)
