use Rattle.std.proofs.Common.{◌<◌, arith, length}
use Rattle.resp_cli_args.proofs.TaskLemmas.{next_table}
use Rattle.resp_cli_args.proofs.parser.Subcommand.args.Goals as goal

pub loop-part-preserved : goal.loop-part-preserved
loop-part-preserved c =
    let below : c.loop-part.part-index < length c.args.self.now.parameters = omega arith in
    next_table _ _ _ _ _ c.loop-part.invariant c.in_ok-add.ensures below
