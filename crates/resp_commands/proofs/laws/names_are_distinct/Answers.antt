use Rattle.resp_commands.proofs.Found.{distinct}
use Rattle.resp_commands.proofs.laws.names_are_distinct.Goals as goal

pub returns : goal.returns
returns c = distinct
