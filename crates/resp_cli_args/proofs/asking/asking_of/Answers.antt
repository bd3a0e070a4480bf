use Rattle.std.proofs.Common.{◌∙◌, ap, sym}
use Rattle.std.specs.Prelude.{option_map}
use Rattle.clap.specs.Words.{found_of, rows_of}
use Rattle.resp_cli_args.proofs.AskingLemmas.{no_asking}
use Rattle.resp_cli_args.proofs.asking.asking_of.Goals as goal

pub returns-in_default-clause-err : goal.returns-in_default-clause-err
returns-in_default-clause-err c = λ other asking has. c.in_default.ensures.none _ has.has

pub returns-in-Err-clause-err : goal.returns-in-Err-clause-err
returns-in-Err-clause-err c =
    let is = sym c.text_of.ensures ∙ ap (option_map (λ text. text.now)) c.in-Some-text_of.is in
    λ other. no_asking (rows_of (found_of c.args.matches.now)) _ is c.in-Err.ensures.err
