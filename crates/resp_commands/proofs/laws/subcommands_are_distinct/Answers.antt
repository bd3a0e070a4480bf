use Rattle.resp_commands.proofs.Found.{subcommands_distinct}
use Rattle.resp_commands.proofs.laws.subcommands_are_distinct.Goals as goal

pub returns : goal.returns
returns c = subcommands_distinct
