use Rattle.clap.specs.Words.{found_of, rows_of}
use Rattle.resp_cli_args.proofs.AskingLemmas.{no_proxying}
use Rattle.resp_cli_args.proofs.asked.proxy_of.Goals as goal

pub returns-in-Err-clause-err : goal.returns-in-Err-clause-err
returns-in-Err-clause-err c = no_proxying (rows_of (found_of c.args.given.now)) c.in-Err.ensures.err
