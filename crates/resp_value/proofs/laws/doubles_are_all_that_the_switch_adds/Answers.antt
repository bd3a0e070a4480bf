use Rattle.resp_value.proofs.SpellingLaws.{doubles_are_all_that_the_switch_adds}
use Rattle.resp_value.proofs.laws.doubles_are_all_that_the_switch_adds.Goals as goal

pub returns : goal.returns
returns c = doubles_are_all_that_the_switch_adds
