use Rattle.resp_session.proofs.WorldsFit.{each_message_is_written}
use Rattle.resp_session.proofs.laws.each_message_is_written.Goals as goal

pub returns : goal.returns
returns c = each_message_is_written c.canonical_text_spells_what_fits.ensures c.effects_fit.ensures
