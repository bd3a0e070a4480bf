use Rattle.resp_cli_args.proofs.DurationLemmas.{differs, no_duration}
use Rattle.resp_cli_args.proofs.duration.duration_of.Goals as goal

pub returns-clause-none : goal.returns-clause-none
returns-clause-none c =
    no_duration c.args.text.now c.number_before-5.result (differs c.args.text.now c.eq.result c.eq.ensures c.if-eq.false) c.in_default.ensures.none c.in_default-number_before.ensures.none
    c.in_default-number_before-2.ensures.none c.in_default-number_before-3.ensures.none c.number_before-5.ensures.none
