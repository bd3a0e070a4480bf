use Rattle.clap.specs.Words.{found_of, rows_of}
use Rattle.resp_cli_args.specs.CommandWords.{HasAskOptions}
use Rattle.resp_cli_args.specs.declared.asking.AskOptions.{AskOptions}
use Rattle.resp_cli_args.proofs.AskingLemmas.{if_none}
use Rattle.resp_cli_args.proofs.asking.options_of.Goals as goal

pub returns-in_err-small_number_of-clause-none : goal.returns-in_err-small_number_of-clause-none
returns-in_err-small_number_of-clause-none c =
    let none : (options : AskOptions) → HasAskOptions (rows_of (found_of c.args.matches.now)) options → ⊥ =
    λ options has. c.in_err-small_number_of.ensures.none _ has.in_flight in
    if_none _ _ none

pub returns-in_err-pause_between-clause-none : goal.returns-in_err-pause_between-clause-none
returns-in_err-pause_between-clause-none c =
    let none : (options : AskOptions) → HasAskOptions (rows_of (found_of c.args.matches.now)) options → ⊥ =
    λ options has. c.in_err-pause_between.ensures.none _ has.timeout in
    if_none _ _ none
