use Rattle.resp_value.proofs.ViabilityLaws.{a_rest_has_one_fault}
use Rattle.resp_value.proofs.laws.a_rest_has_one_fault.Goals as goal

pub returns : goal.returns
returns c = a_rest_has_one_fault
