use Rattle.std.proofs.Common.{sym}
use Rattle.clap.specs.Words.{found_of, rows_of}
use Rattle.resp_cli_args.proofs.AskingLemmas.{if_none, no_most}
use Rattle.resp_cli_args.proofs.options.most_of.Goals as goal

pub returns-in_default-clause-some : goal.returns-in_default-clause-some
returns-in_default-clause-some c = (sym c.in_default.ensures, tt)

pub returns-in_err-small_number_of-clause-none : goal.returns-in_err-small_number_of-clause-none
returns-in_err-small_number_of-clause-none c =
    let given = rows_of (found_of c.args.matches.now) in
    if_none _ _ (no_most given c.args.name.now c.in-Some._text.now (sym c.in-Some.ensures) c.in_err-small_number_of.ensures.none)
