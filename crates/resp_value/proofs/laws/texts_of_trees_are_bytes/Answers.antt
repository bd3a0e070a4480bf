use Rattle.resp_value.proofs.ByteLemmas.{texts_of_trees_are_bytes}
use Rattle.resp_value.proofs.laws.texts_of_trees_are_bytes.Goals as goal

pub returns : goal.returns
returns c = texts_of_trees_are_bytes
