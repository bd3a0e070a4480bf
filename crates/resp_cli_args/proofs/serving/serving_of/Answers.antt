use Rattle.clap.specs.Words.{found_of, rows_of}
use Rattle.resp_cli_args.proofs.AskingLemmas.{no_serving, on_err}
use Rattle.resp_cli_args.proofs.serving.serving_of.Goals as goal

pub returns-in_default-clause-err : goal.returns-in_default-clause-err
returns-in_default-clause-err c = λ serving has. c.in_default.ensures.none _ _ _ _ _ has.0

pub returns-in_err-listen_of-clause-err : goal.returns-in_err-listen_of-clause-err
returns-in_err-listen_of-clause-err c =
    let given = rows_of (found_of c.args.matches.now) in
    on_err _ _ (no_serving given _ c.in-Some.ensures.some.text c.in_err-listen_of.ensures.err)

pub returns-in_default-flag_of-clause-err : goal.returns-in_default-flag_of-clause-err
returns-in_default-flag_of-clause-err c = λ serving has. c.in_default-flag_of.ensures.none _ has.2

pub returns-in_default-number_of-clause-err : goal.returns-in_default-number_of-clause-err
returns-in_default-number_of-clause-err c = λ serving has. c.in_default-number_of.ensures.none _ has.3
