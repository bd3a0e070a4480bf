use Rattle.resp_value.proofs.ViabilityLaws.{fronts_of_viable_texts_are_viable}
use Rattle.resp_value.proofs.laws.fronts_of_viable_texts_are_viable.Goals as goal

pub returns : goal.returns
returns c = fronts_of_viable_texts_are_viable
