use Rattle.resp_value.proofs.SpellingLaws.{a_push_begins_with_its_byte}
use Rattle.resp_value.proofs.laws.a_push_begins_with_its_byte.Goals as goal

pub returns : goal.returns
returns c = a_push_begins_with_its_byte
