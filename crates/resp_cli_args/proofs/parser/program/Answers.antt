use Rattle.std.proofs.lemmas.Result.{IfOk-weaker}
use Rattle.resp_cli_args.specs.Program.{IsTask, bare_app}
use Rattle.resp_cli_args.specs.Tables.{with_subcommands}
use Rattle.resp_cli_args.proofs.TaskLemmas.{is_task_with_name, is_task_with_subcommands}
use Rattle.resp_cli_args.proofs.parser.program.Goals as goal

pub returns : goal.returns
returns c =
    let program = c.in_ok-subcommands.field-0 in
    let is : IsTask program (with_subcommands bare_app c.args.subcommands.now) =
    is_task_with_subcommands c.in_ok-commands.commands.items c.args.subcommands.now c.bare_program.result program bare_app
    c.in_ok-subcommands.ensures c.in_ok-commands.ensures c.bare_program.ensures
    in
    IfOk-weaker c.bin_name.result _ _ (λ command named. is_task_with_name program command _ named.0 is) c.bin_name.ensures
