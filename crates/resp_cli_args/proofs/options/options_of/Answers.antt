use Rattle.clap.specs.Words.{found_of, rows_of}
use Rattle.resp_cli_args.specs.CommandWords.{HasOptions}
use Rattle.resp_cli_args.specs.declared.options.Options.{Options}
use Rattle.resp_cli_args.proofs.AskingLemmas.{if_none}
use Rattle.resp_cli_args.proofs.options.options_of.Goals as goal

pub returns-in_err-piece-clause-none : goal.returns-in_err-piece-clause-none
returns-in_err-piece-clause-none c =
    let none : (options : Options) → HasOptions (rows_of (found_of c.args.matches.now)) options → ⊥ =
    λ options has. c.in_err-piece.ensures.none _ has.piece in
    if_none _ _ none

pub returns-in_err-version-clause-none : goal.returns-in_err-version-clause-none
returns-in_err-version-clause-none c =
    let none : (options : Options) → HasOptions (rows_of (found_of c.args.matches.now)) options → ⊥ =
    λ options has. c.in_err-version.ensures.none _ _ has.reading in
    if_none _ _ none
