use Rattle.resp_fronts.proofs.FrameLaws.FrontLaws.{compose}
use Rattle.resp_fronts.proofs.laws.compose.Goals as goal

pub returns : goal.returns
returns c = compose
