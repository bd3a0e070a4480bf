use Rattle.resp_fronts.proofs.FrameLaws.FrontLaws.{viable_in_all}
use Rattle.resp_fronts.proofs.laws.viable_in_all.Goals as goal

pub returns : goal.returns
returns c = viable_in_all
