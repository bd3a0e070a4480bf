use Rattle.resp_value.proofs.SpellingLaws.{version_three_spells_what_two_does}
use Rattle.resp_value.proofs.laws.version_three_spells_what_two_does.Goals as goal

pub returns : goal.returns
returns c = version_three_spells_what_two_does
