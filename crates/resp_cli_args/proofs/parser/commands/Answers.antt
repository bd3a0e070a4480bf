use Rattle.std.proofs.Common.{◌≡◌, ◌<◌, ◌++◌, ◌∷◌, ◌∙◌, [], ap, arith, length, map}
use Rattle.resp_cli_args.specs.Tables.{local_app, subcommand_app}
use Rattle.resp_cli_args.proofs.TaskLemmas.{is_here, next_row}
use Rattle.resp_cli_args.proofs.parser.commands.Goals as goal

pub loop-subcommand-preserved : goal.loop-subcommand-preserved
loop-subcommand-preserved c =
    let at = c.loop-subcommand in
    let command = c.in_ok-command.field-0 in
    let below : at.subcommand-index < length c.args.subcommands.now = omega arith in
    let pushed : c.push.new.self.items ≡ at.commands.items ++ command ∷ [] = c.in_ok-push.ensures.items in
    ap (map local_app) pushed
    ∙ next_row local_app subcommand_app at.commands.items command [] c.args.subcommands.now at.subcommand-index _ at.invariant
    (is_here command _ c.in_ok-command.ensures) below
