use Rattle.resp_value.proofs.TypeBytes.{type_bytes_are_viable}
use Rattle.resp_value.proofs.laws.type_bytes_are_viable.Goals as goal

pub returns : goal.returns
returns c = type_bytes_are_viable
