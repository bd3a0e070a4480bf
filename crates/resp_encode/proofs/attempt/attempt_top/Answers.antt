use Rattle.std.proofs.Common.{map, sym, ap, ◌∙◌, subst}
use Rattle.resp_value.specs.Data.{data_of_list, aggregate}
use Rattle.resp_value.specs.Data as d
use Rattle.resp_value.specs.Values.{datum_of}
use Rattle.resp_value.proofs.DatumOf.{datum_of-Push}
use Rattle.resp_encode.specs.Walks.Attempts.{Attempt}
use Rattle.resp_encode.proofs.attempt.attempt_top.Goals as goal

pub returns-in-Push : goal.returns-in-Push
returns-in-Push c = subst (λ x. Attempt c.args.version c.args.limits.now c.args.limits.now.depth x c.args.out.now
    c.attempt_group.new.out
    c.attempt_group.result)
    (ap (λ xs. aggregate d.Push (data_of_list (map datum_of xs))) c.list.ensures ∙
    sym (ap datum_of c.in-Push.is ∙ datum_of-Push c.in-Push.members))
    (subst (λ deeper. Attempt c.args.version c.args.limits.now deeper
    (aggregate d.Push (data_of_list (map datum_of c.list.result.now))) c.args.out.now
    c.attempt_group.new.out c.attempt_group.result) c.depth-deeper.ensures.depth c.attempt_group.ensures)
