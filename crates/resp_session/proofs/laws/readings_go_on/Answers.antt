use Rattle.resp_session.proofs.Readings.{readings_go_on}
use Rattle.resp_session.proofs.laws.readings_go_on.Goals as goal

pub returns : goal.returns
returns c = readings_go_on
