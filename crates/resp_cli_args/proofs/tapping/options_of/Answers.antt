use Rattle.clap.specs.Words.{found_of, rows_of}
use Rattle.resp_cli_args.specs.CommandWords.{HasTapOptions}
use Rattle.resp_cli_args.specs.declared.tapping.TapOptions.{TapOptions}
use Rattle.resp_cli_args.proofs.AskingLemmas.{if_none}
use Rattle.resp_cli_args.proofs.tapping.options_of.Goals as goal

pub returns-in_err-most_of-clause-none : goal.returns-in_err-most_of-clause-none
returns-in_err-most_of-clause-none c =
    let none : (options : TapOptions) → HasTapOptions (rows_of (found_of c.args.matches.now)) options → ⊥ =
    λ options has. c.in_err-most_of.ensures.none _ has.at_once in
    if_none _ _ none

pub returns-in_err-bytes_of-clause-none : goal.returns-in_err-bytes_of-clause-none
returns-in_err-bytes_of-clause-none c =
    let none : (options : TapOptions) → HasTapOptions (rows_of (found_of c.args.matches.now)) options → ⊥ =
    λ options has. c.in_err-bytes_of.ensures.none _ has.bytes in
    if_none _ _ none

pub returns-in_err-pause_between-clause-none : goal.returns-in_err-pause_between-clause-none
returns-in_err-pause_between-clause-none c =
    let none : (options : TapOptions) → HasTapOptions (rows_of (found_of c.args.matches.now)) options → ⊥ =
    λ options has. c.in_err-pause_between.ensures.none _ has.drains in
    if_none _ _ none
