use Rattle.resp_value.proofs.ViabilityLaws.{a_viable_text_has_no_cause}
use Rattle.resp_value.proofs.laws.a_viable_text_has_no_cause.Goals as goal

pub returns : goal.returns
returns c = a_viable_text_has_no_cause
