use Rattle.std.proofs.Common.{rules}
use Rattle.std.proofs.lemmas.Result.{IfOk-weaker}
use Rattle.clap.specs.Words.{new_app}
use Rattle.resp_cli_args.specs.Program.{IsTask}
use Rattle.resp_cli_args.specs.Tables.{rules_in}
use Rattle.resp_cli_args.proofs.TaskLemmas.{is_task_with_options}
use Rattle.resp_cli_args.proofs.parser.Subcommand.command.Goals as goal

pub returns : goal.returns
returns c =
    let start : IsTask c.after_help.result (new_app c.args.self.now.texts.now.name.now) = search rules in
    IfOk-weaker c.args-3.result _ _
    (λ command adds. is_task_with_options c.in_ok-args.args.items (rules_in c.args.self.now.parameters) c.after_help.result command _ adds
    c.in_ok-args.ensures start)
    c.args-3.ensures
