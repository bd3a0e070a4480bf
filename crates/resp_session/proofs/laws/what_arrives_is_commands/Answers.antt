use Rattle.resp_session.proofs.SentRequests.{what_arrives_is_commands}
use Rattle.resp_session.proofs.laws.what_arrives_is_commands.Goals as goal

pub returns : goal.returns
returns c = what_arrives_is_commands c.what_comes_is_whole_texts.ensures c.canonical_text_spells_what_fits.ensures
