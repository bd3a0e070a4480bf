use Rattle.resp_value.proofs.TypeBytes.{the_empty_text_is_viable}
use Rattle.resp_value.proofs.laws.the_empty_text_is_viable.Goals as goal

pub returns : goal.returns
returns c = the_empty_text_is_viable
