use Rattle.resp_value.proofs.SpellingLaws.{no_spelling_begins_another}
use Rattle.resp_value.proofs.laws.no_spelling_begins_another.Goals as goal

pub returns : goal.returns
returns c = no_spelling_begins_another
