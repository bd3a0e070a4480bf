use Rattle.resp_fronts.proofs.FrameLaws.MoreFrontLaws.{events_due_split}
use Rattle.resp_fronts.proofs.laws.events_due.Goals as goal

pub returns : goal.returns
returns c = events_due_split
