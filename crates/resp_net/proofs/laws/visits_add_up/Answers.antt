use Rattle.resp_net.proofs.Visits.{visits_add_up}
use Rattle.resp_net.proofs.laws.visits_add_up.Goals as goal

pub returns : goal.returns
returns c = visits_add_up
