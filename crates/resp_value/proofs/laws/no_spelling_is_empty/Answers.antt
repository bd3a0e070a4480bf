use Rattle.resp_value.proofs.SpellingLaws.{no_spelling_is_empty}
use Rattle.resp_value.proofs.laws.no_spelling_is_empty.Goals as goal

pub returns : goal.returns
returns c = no_spelling_is_empty
