use Rattle.std.proofs.Common.{◌≡◌, map}
use Rattle.std.proofs.Math.ListN.{take}
use Rattle.resp_cli_args.specs.Tables.{here, local_rule, rules_in}
use Rattle.resp_cli_args.proofs.parser.Subcommand.args.Given as goal

abbrev pub invariant-loop-part : goal.invariant-loop-part
invariant-loop-part l = map local_rule l.args.items ≡ map here (rules_in (take l.part-index l.self.parameters))
