use Rattle.resp_cli_args.proofs.AskingLemmas.{no_address}
use Rattle.resp_cli_args.proofs.options.address_of.Goals as goal

pub returns-in-None-clause-err : goal.returns-in-None-clause-err
returns-in-None-clause-err c = no_address c.args.text.now c.in_default.ensures.value c.in-None.ensures.none
