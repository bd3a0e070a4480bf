use Rattle.resp_cli_args.proofs.DurationLemmas.{no_time}
use Rattle.resp_cli_args.proofs.duration.time_of.Goals as goal

pub returns-clause-none : goal.returns-clause-none
returns-clause-none c =
    no_time c.args.text.now c.args.least c.args.most c.number_within-5.result c.in_default.ensures.none c.in_default-number_within.ensures.none
    c.in_default-number_within-2.ensures.none c.in_default-number_within-3.ensures.none c.number_within-5.ensures.none
