use Rattle.resp_commands.proofs.Found.{in_lower_case}
use Rattle.resp_commands.proofs.laws.names_are_in_lower_case.Goals as goal

pub returns : goal.returns
returns c = in_lower_case
