use Rattle.std.proofs.Common.{sym}
use Rattle.clap.specs.Words.{found_of, rows_of}
use Rattle.resp_cli_args.proofs.DurationLemmas.{has_no_time}
use Rattle.resp_cli_args.proofs.options.time_between.Goals as goal

pub returns-in-Some-clause-none : goal.returns-in-Some-clause-none
returns-in-Some-clause-none c = has_no_time (rows_of (found_of c.args.matches.now)) c.args.name.now c.in-Some.text.now c.args.least c.args.most
    c.time_of.result (sym c.in-Some.ensures) c.time_of.ensures.none
