use Rattle.resp_fronts.proofs.FrameLaws.FrontLaws.{follow_least}
use Rattle.resp_fronts.proofs.laws.follow_least.Goals as goal

pub returns : goal.returns
returns c = follow_least
