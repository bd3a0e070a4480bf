use Rattle.std.proofs.Common.{◌≡◌, ◌<◌, ◌++◌, ◌∷◌, ◌∙◌, [], ap, arith, length, map}
use Rattle.resp_cli_args.specs.Tables.{local_rule, parameter_rule}
use Rattle.resp_cli_args.proofs.TaskLemmas.{next_row}
use Rattle.resp_cli_args.proofs.parameter.add.Goals as goal

pub loop-parameter-preserved : goal.loop-parameter-preserved
loop-parameter-preserved c =
    let at = c.loop-parameter in
    let below : at.parameter-index < length c.args.parameters.now = omega arith in
    let pushed : c.push.new.self.items ≡ at.args.items ++ c.arg.result ∷ [] = c.in_ok-push.ensures.items in
    ap (map local_rule) pushed
    ∙ next_row local_rule parameter_rule at.args.items c.arg.result _ c.args.parameters.now at.parameter-index _ at.invariant c.arg.ensures below
