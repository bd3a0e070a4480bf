use Rattle.resp_cli_args.proofs.DurationLemmas.{differs, no_pause}
use Rattle.resp_cli_args.proofs.duration.pause_of.Goals as goal

pub returns-clause-none : goal.returns-clause-none
returns-clause-none c = no_pause c.args.text.now c.args.least c.args.most c.time_of.result (differs c.args.text.now c.eq.result c.eq.ensures c.if-eq.false) c.time_of.ensures.none
