use Rattle.resp_session.proofs.Readings.{readings_stay}
use Rattle.resp_session.proofs.laws.readings_stay.Goals as goal

pub returns : goal.returns
returns c = readings_stay c.a_push_begins_with_its_byte.ensures c.fronts_of_spellings_are_viable.ensures c.later_type_bytes_want_version_three.ensures
