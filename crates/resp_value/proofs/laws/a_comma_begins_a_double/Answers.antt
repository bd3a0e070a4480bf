use Rattle.resp_value.proofs.TypeBytes.{a_comma_begins_a_double}
use Rattle.resp_value.proofs.laws.a_comma_begins_a_double.Goals as goal

pub returns : goal.returns
returns c = a_comma_begins_a_double
