use Rattle.resp_value.proofs.LocalRuleLemmas.{rules_hold_at_each_node}
use Rattle.resp_value.proofs.laws.rules_hold_at_each_node.Goals as goal

pub returns : goal.returns
returns c = rules_hold_at_each_node
