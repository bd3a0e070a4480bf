use Rattle.clap.specs.Words.{found_of, rows_of}
use Rattle.resp_cli_args.specs.CommandWords.{HasFilter}
use Rattle.resp_cli_args.specs.declared.tapping.FilterOptions.{FilterOptions}
use Rattle.resp_cli_args.proofs.AskingLemmas.{if_none}
use Rattle.resp_cli_args.proofs.tapping.filter_of.Goals as goal

pub returns-in_err-number_of-clause-none : goal.returns-in_err-number_of-clause-none
returns-in_err-number_of-clause-none c =
    let none : (filter : FilterOptions) → HasFilter (rows_of (found_of c.args.matches.now)) filter → ⊥ =
    λ filter has. c.in_err-number_of.ensures.none _ has.only in
    if_none _ _ none
