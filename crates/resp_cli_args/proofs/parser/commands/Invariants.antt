use Rattle.std.proofs.Common.{◌≡◌, map}
use Rattle.std.proofs.Math.ListN.{take}
use Rattle.resp_cli_args.specs.Tables.{here, local_app, subcommand_app}
use Rattle.resp_cli_args.proofs.parser.commands.Given as goal

abbrev pub invariant-loop-subcommand : goal.invariant-loop-subcommand
invariant-loop-subcommand l =
    map local_app l.commands.items ≡ map here (map subcommand_app (take l.subcommand-index l.subcommands))
