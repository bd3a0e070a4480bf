use Rattle.resp_fronts.proofs.FrameLaws.FrontLaws.{determine}
use Rattle.resp_fronts.proofs.laws.determine.Goals as goal

pub returns : goal.returns
returns c = determine
