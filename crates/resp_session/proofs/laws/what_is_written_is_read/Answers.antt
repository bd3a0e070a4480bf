use Rattle.resp_session.proofs.WorldsAreRead.{what_is_written_is_read}
use Rattle.resp_session.proofs.laws.what_is_written_is_read.Goals as goal

pub returns : goal.returns
returns c = what_is_written_is_read c.canonical_text_spells_what_fits.ensures c.version_three_spells_what_two_does.ensures c.readings_go_on.ensures
    c.readings_stay.ensures c.each_message_is_written.ensures
