use Rattle.std.proofs.Common.{inr, [], refl, sym, ◌∙◌}
use Rattle.std.proofs.lemmas.List.{append-nil}
use Rattle.resp_value.specs.Cuts.{cut_lengths}
use Rattle.resp_print.proofs.value.write_cut_value.Goals as goal

pub returns : goal.returns
returns g c = λ whole same lengths.
    let shown = c.args.shown in
    (c.write_lines.ensures whole [] (inr (shown, refl, same, lengths ∙ sym (append-nil (cut_lengths shown whole))))).0
