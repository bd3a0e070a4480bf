use Rattle.resp_decode.proofs.Values.{are_good}
use Rattle.resp_decode.proofs.laws.what_is_built_is_no_heavier.Goals as goal

pub returns : goal.returns
returns c = λ r front given viable begin. (are_good r front given viable begin).weight
