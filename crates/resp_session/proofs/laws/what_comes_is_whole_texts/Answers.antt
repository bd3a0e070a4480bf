use Rattle.resp_session.proofs.Arrivals.{comes}
use Rattle.resp_session.proofs.laws.what_comes_is_whole_texts.Goals as goal

pub returns : goal.returns
returns c = comes c.no_spelling_begins_another.ensures c.no_spelling_is_empty.ensures c.fronts_of_spellings_are_viable.ensures
    c.the_empty_text_is_viable.ensures
