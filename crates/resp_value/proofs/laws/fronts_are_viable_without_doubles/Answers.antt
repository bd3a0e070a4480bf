use Rattle.resp_value.proofs.SpellingLaws.{fronts_are_viable_without_doubles}
use Rattle.resp_value.proofs.laws.fronts_are_viable_without_doubles.Goals as goal

pub returns : goal.returns
returns c = fronts_are_viable_without_doubles
