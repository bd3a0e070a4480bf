use Rattle.resp_tap.proofs.DateLemmas.{start_of}
use Rattle.resp_tap.proofs.date.days_of_years.Goals as goal

pub returns-clause-is_start : goal.returns-clause-is_start
returns-clause-is_start c = start_of c.args.years
