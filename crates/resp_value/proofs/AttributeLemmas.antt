-- Values without the attributes before them.
use Rattle.std.proofs.Common.{Global, ◌≡◌, refl}
use Rattle.std.specs.declared.boxed.Box.{Box}
use Rattle.resp_value.specs.Data.{Datum, Data, none, more}
use Rattle.resp_value.specs.Attributes.{without_attributes, annotated_value}
use Rattle.resp_value.specs.Values.{datum_of, data_of_pairs, extended}
use Rattle.resp_value.specs.declared.value.Value.TheBlock.{hidden-the_row-PairList-pairs-2-1}
use Rattle.resp_value.specs.declared.value.Value.TheVariants.{Attr}
use Rattle.resp_value.specs.declared.value.Value.{Value}
use Rattle.resp_value.specs.declared.value.PairList.{PairList}

-- the value that stands last among members
annotated_value-extended : (xs : Data) (x : Datum) → annotated_value (extended xs x) ≡ without_attributes x
annotated_value-extended none x = refl
annotated_value-extended (more y none) x = refl
annotated_value-extended (more y (more z zs)) x = annotated_value-extended (more z zs) x

-- an attribute hides the value that it annotates
pub without_attributes-Attr : (pairs : PairList) (annotated : Box Value Global) →
    without_attributes (datum_of (Attr pairs annotated)) ≡ without_attributes (datum_of annotated.value)
without_attributes-Attr pairs annotated = annotated_value-extended
    (data_of_pairs (hidden-the_row-PairList-pairs-2-1 pairs.pairs)) (datum_of annotated.value)
