use Rattle.std.proofs.Common.{◌++◌, map, sym, ap, ◌∙◌}
use Rattle.std.proofs.lemmas.List.{append-nil}
use Rattle.resp_value.specs.Data.{aggregate, data_of_list, in_turn}
use Rattle.resp_value.specs.Data as d
use Rattle.resp_value.specs.Values.{pair_data}
use Rattle.resp_value.proofs.DatumOf.{datum_of-Map}
use Rattle.resp_decode.proofs.HeldLemmas.{no_key}
use Rattle.resp_decode.proofs.group.Pairs.into_map.Goals as goal

pub returns : goal.returns
returns c = λ fits.
    let pairs = map pair_data c.args.self.whole.items in
    datum_of-Map c.new.result
    ∙ ap (λ ps. aggregate d.Map (data_of_list (in_turn (map pair_data ps)))) c.new.ensures
    ∙ ap (λ z. aggregate d.Map (data_of_list z)) (sym (ap (λ z. in_turn pairs ++ z) (no_key pairs c.args.self.key fits) ∙ append-nil (in_turn pairs)))
