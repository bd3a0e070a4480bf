use Rattle.resp_value.proofs.EqualValues.{equal_where_data_are}
use Rattle.resp_value.proofs.laws.equal_values_have_equal_data.Goals as goal

pub returns : goal.returns
returns c = equal_where_data_are
