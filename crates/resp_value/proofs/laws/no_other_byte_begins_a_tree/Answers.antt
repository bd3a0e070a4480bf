use Rattle.resp_value.proofs.TypeBytes.{no_other_byte_begins_a_tree}
use Rattle.resp_value.proofs.laws.no_other_byte_begins_a_tree.Goals as goal

pub returns : goal.returns
returns c = no_other_byte_begins_a_tree
