use Rattle.clap.specs.Words.{found_of}
use Rattle.resp_cli_args.proofs.AskingLemmas.{flag_read, no_flag_read}
use Rattle.resp_cli_args.proofs.options.flag_of.Goals as goal

pub returns-clause-some : goal.returns-clause-some
returns-clause-some c = flag_read _ (found_of c.args.matches.now) _ c.get_one.result c.get_one.ensures.none c.get_one.ensures.value

pub returns-clause-none : goal.returns-clause-none
returns-clause-none c = no_flag_read _ (found_of c.args.matches.now) _ c.get_one.result c.get_one.ensures.value
