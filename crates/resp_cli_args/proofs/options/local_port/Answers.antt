use Rattle.resp_cli_args.proofs.AskingLemmas.{no_local_port}
use Rattle.resp_cli_args.proofs.options.local_port.Goals as goal

pub returns-clause-none : goal.returns-clause-none
returns-clause-none c = no_local_port c.args.text.now c.port_after-3.result c.in_default.ensures.none c.in_default-port_after.ensures.none c.port_after-3.ensures.none
