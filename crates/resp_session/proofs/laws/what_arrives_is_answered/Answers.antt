use Rattle.resp_session.proofs.ArrivalsAnswered.{what_arrives_is_answered}
use Rattle.resp_session.proofs.laws.what_arrives_is_answered.Goals as goal

pub returns : goal.returns
returns c = what_arrives_is_answered c.no_spelling_begins_another.ensures c.a_text_has_one_cut.ensures c.what_comes_is_whole_texts.ensures
    c.a_text_has_one_answer.ensures.one_answer c.canonical_text_spells_what_fits.ensures
