use Rattle.std.proofs.Common.{ℕ}
use Rattle.clap.specs.Words.{found_of, rows_of}
use Rattle.resp_cli_args.specs.CommandWords.{HasNumberBetween}
use Rattle.resp_cli_args.proofs.AskingLemmas.{if_none}
use Rattle.resp_cli_args.proofs.proxying.number_between.Goals as goal

pub returns-in_err-number-clause-none : goal.returns-in_err-number-clause-none
returns-in_err-number-clause-none c =
    let none : (number : ℕ) → HasNumberBetween (rows_of (found_of c.args.matches.now)) c.args.name.now c.args.least c.args.most number → ⊥ =
    λ number has. c.in_err-number.ensures.none _ has.0 in
    if_none _ _ none
