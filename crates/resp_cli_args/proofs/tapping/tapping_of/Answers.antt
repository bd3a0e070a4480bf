use Rattle.resp_cli_args.proofs.tapping.tapping_of.Goals as goal

pub returns-in_default-clause-err : goal.returns-in_default-clause-err
returns-in_default-clause-err c = λ tapping has. c.in_default.ensures.none _ has.1

pub returns-in-Err-clause-err : goal.returns-in-Err-clause-err
returns-in-Err-clause-err c = λ tapping has. c.in-Err.ensures.err tapping.traffic has.0
