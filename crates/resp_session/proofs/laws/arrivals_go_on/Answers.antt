use Rattle.resp_session.proofs.ArrivalsGoOn.{arrivals_go_on}
use Rattle.resp_session.proofs.laws.arrivals_go_on.Goals as goal

pub returns : goal.returns
returns c = arrivals_go_on
