use Rattle.std.proofs.Common.{inl, [], ap, map, refl, sym, ◌∙◌}
use Rattle.resp_value.proofs.DatumOf.{datum_of-Push}
use Rattle.resp_value.specs.Data.{aggregate, data_of_list}
use Rattle.resp_value.specs.Data as d
use Rattle.resp_value.specs.Values.{datum_of}
use Rattle.resp_value.specs.declared.value.Value.TheVariants as value
use Rattle.resp_print.proofs.Lines.{group_printed}
use Rattle.resp_print.proofs.value.write_push_value.Goals as goal

pub returns : goal.returns
returns g c =
    let push = value.Push c.args.members.now in
    (group_printed c.args.most c.write_group.result _ _ _ _ c.args.level d.Push push c.list.result.now [] (datum_of push) [] _ (λ e. absurd (cc)) (λ n. refl)
    (ap (λ ms. aggregate d.Push (data_of_list (map datum_of ms))) c.list.ensures ∙ sym (datum_of-Push c.args.members.now)) (inl (refl, refl, refl))
    (λ xs kept. c.write_group.ensures xs [] kept)).0
