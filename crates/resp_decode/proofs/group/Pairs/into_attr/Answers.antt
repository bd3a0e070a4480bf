use Rattle.std.proofs.Common.{◌≡◌, [], ◌∷◌, ◌++◌, map, sym, ap, ◌∙◌}
use Rattle.resp_value.specs.Data.{aggregate, data_of_list, in_turn}
use Rattle.resp_value.specs.Data as d
use Rattle.resp_value.specs.Values.{datum_of, pair_data}
use Rattle.resp_value.proofs.DatumOf.{datum_of-Attr}
use Rattle.resp_decode.specs.Holding.{key_data}
use Rattle.resp_decode.proofs.group.Pairs.into_attr.Goals as goal

pub returns-in-Ok : goal.returns-in-Ok
returns-in-Ok c =
    let pairs = map pair_data c.args.self.whole.items in
    let some : key_data c.args.self.key ≡ datum_of c.in-Some.annotated ∷ [] = ap key_data c.in-Some.is in
    datum_of-Attr c.new-in-Ok.result c.in-Ok.annotated
    ∙ ap (λ ps. aggregate d.Attr (data_of_list (in_turn (map pair_data ps) ++ datum_of c.in-Ok.annotated.value ∷ []))) c.new-in-Ok.ensures
    ∙ ap (λ x. aggregate d.Attr (data_of_list (in_turn pairs ++ datum_of x ∷ []))) c.in-Ok.ensures.ok
    ∙ ap (λ z. aggregate d.Attr (data_of_list (in_turn pairs ++ z))) (sym some)
