use Rattle.resp_value.proofs.SpellingLaws.{a_text_has_one_cut}
use Rattle.resp_value.proofs.laws.a_text_has_one_cut.Goals as goal

pub returns : goal.returns
returns c = a_text_has_one_cut
