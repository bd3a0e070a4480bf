use Rattle.resp_session.proofs.Readings.{a_text_has_one_reading}
use Rattle.resp_session.proofs.laws.a_text_has_one_reading.Goals as goal

pub returns : goal.returns
returns c = a_text_has_one_reading c.no_spelling_begins_another.ensures
