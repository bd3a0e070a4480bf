use Rattle.resp_value.proofs.Cutting.{lengths_stay_as_many}
use Rattle.resp_value.proofs.laws.lengths_stay_as_many.Goals as goal

pub returns : goal.returns
returns c = lengths_stay_as_many
