use Rattle.resp_value.proofs.ViabilityLaws.{later_rules_leave_less}
use Rattle.resp_value.proofs.laws.later_rules_leave_less.Goals as goal

pub returns : goal.returns
returns c = later_rules_leave_less
