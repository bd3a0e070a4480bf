use Rattle.resp_value.proofs.SpellingLaws.{canonical_text_tells_values_apart}
use Rattle.resp_value.proofs.laws.canonical_text_tells_values_apart.Goals as goal

pub returns : goal.returns
returns c = canonical_text_tells_values_apart
