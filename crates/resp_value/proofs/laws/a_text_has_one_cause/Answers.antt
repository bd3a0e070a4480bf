use Rattle.resp_value.proofs.ViabilityLaws.{a_text_has_one_cause}
use Rattle.resp_value.proofs.laws.a_text_has_one_cause.Goals as goal

pub returns : goal.returns
returns c = a_text_has_one_cause
