use Rattle.std.proofs.Common.{◌≡◌, ◌++◌, map}
use Rattle.std.proofs.Math.ListN.{take}
use Rattle.resp_cli_args.specs.Tables.{here, local_rule, parameter_rule}
use Rattle.resp_cli_args.proofs.parameter.add.Given as goal

abbrev pub invariant-loop-parameter : goal.invariant-loop-parameter
invariant-loop-parameter l =
    map local_rule l.args.items ≡ map local_rule l.initial.args.items ++ map here (map parameter_rule (take l.parameter-index l.parameters))
