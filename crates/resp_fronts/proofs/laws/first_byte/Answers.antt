use Rattle.resp_fronts.proofs.FrameLaws.MoreFrontLaws.{first_byte}
use Rattle.resp_fronts.proofs.laws.first_byte.Goals as goal

pub returns : goal.returns
returns c = first_byte
