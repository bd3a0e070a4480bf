use Rattle.std.proofs.Common.{inr, Some, [], ap, map, refl, sym, ◌∙◌}
use Rattle.std.proofs.lemmas.List.{append-nil}
use Rattle.resp_value.proofs.DatumOf.{datum_of-Push}
use Rattle.resp_value.specs.Data.{aggregate, data_of_list}
use Rattle.resp_value.specs.Data as d
use Rattle.resp_value.specs.Values.{datum_of}
use Rattle.resp_value.specs.declared.value.Value.TheVariants as value
use Rattle.resp_print.proofs.Lines.{group_printed}
use Rattle.resp_value.specs.Cuts.{cut_lengths}
use Rattle.resp_print.proofs.value.write_cut_push_value.Goals as goal

pub returns : goal.returns
returns g c = λ whole same lengths.
    let shown = c.args.shown in
    let push = value.Push c.args.members.now in
    (group_printed (Some shown) c.write_group.result _ _ _ _ c.args.level d.Push push c.list.result.now c.args.lengths.now whole [] _ (λ e. absurd (cc)) (λ n. refl)
    (ap (λ ms. aggregate d.Push (data_of_list (map datum_of ms))) c.list.ensures ∙ sym (datum_of-Push c.args.members.now))
    (inr (shown, refl, same, lengths ∙ sym (append-nil (cut_lengths shown whole)))) (λ xs kept. c.write_group.ensures xs [] kept)).0
