use Rattle.resp_session.proofs.Hearing.{hearing_goes_on}
use Rattle.resp_session.proofs.laws.hearing_goes_on.Goals as goal

pub returns : goal.returns
returns c = hearing_goes_on
