use Rattle.resp_session.proofs.TextsInPieces.{a_text_has_one_answer, answers_are_of_the_cut}
use Rattle.resp_session.proofs.laws.a_text_has_one_answer.Goals as goal

pub returns-clause-one_answer : goal.returns-clause-one_answer
returns-clause-one_answer c = a_text_has_one_answer c.no_spelling_begins_another.ensures c.fronts_of_viable_texts_are_viable.ensures
    c.a_viable_text_has_no_cause.ensures c.a_rest_has_one_fault.ensures

pub returns-clause-of_the_cut : goal.returns-clause-of_the_cut
returns-clause-of_the_cut c = answers_are_of_the_cut c.no_spelling_begins_another.ensures c.fronts_of_viable_texts_are_viable.ensures
    c.a_viable_text_has_no_cause.ensures c.a_rest_has_one_fault.ensures
