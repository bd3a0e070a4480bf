use Rattle.resp_value.proofs.Cutting.{a_cut_value_is_cut_already}
use Rattle.resp_value.proofs.laws.a_cut_value_is_cut_already.Goals as goal

pub returns : goal.returns
returns c = a_cut_value_is_cut_already
