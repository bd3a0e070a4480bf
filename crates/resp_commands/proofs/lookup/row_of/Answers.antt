use Rattle.resp_commands.proofs.Found.{no_row}
use Rattle.resp_commands.proofs.lookup.row_of.Goals as goal

pub returns-clause-unknown : goal.returns-clause-unknown
returns-clause-unknown c =
    no_row c.in_ok-command.command.now c.args.name.now c.args.first c.row_by.result c.in_ok-command.ensures.found c.in_ok-command.ensures.named
    c.row_by.ensures.unknown
