use Rattle.resp_value.proofs.RefusedExamples.{value_and_fault}
use Rattle.resp_value.proofs.laws.a_cut_and_its_fault.Goals as goal

pub returns : goal.returns
returns c = value_and_fault
