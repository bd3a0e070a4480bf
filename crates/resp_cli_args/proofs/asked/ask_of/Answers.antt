use Rattle.clap.specs.Words.{found_of, rows_of}
use Rattle.resp_cli_args.proofs.AskingLemmas.{nothing_to_ask}
use Rattle.resp_cli_args.proofs.asked.ask_of.Goals as goal

pub returns-in-Err-clause-err : goal.returns-in-Err-clause-err
returns-in-Err-clause-err c = λ other. nothing_to_ask (rows_of (found_of c.args.given.now)) (c.in-Err.ensures.err other)
