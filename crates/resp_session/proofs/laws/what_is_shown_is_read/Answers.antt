use Rattle.resp_session.proofs.ShownIsRead.{what_is_shown_is_read, what_is_read_is_shown, what_is_left_may_go_on, no_client_meets_a_fault}
use Rattle.resp_session.proofs.laws.what_is_shown_is_read.Goals as goal

pub returns-clause-read : goal.returns-clause-read
returns-clause-read c = what_is_shown_is_read c.no_spelling_begins_another.ensures c.no_spelling_is_empty.ensures c.fronts_of_spellings_are_viable.ensures
    c.the_empty_text_is_viable.ensures c.a_push_begins_with_its_byte.ensures c.each_message_is_written.ensures c.what_is_written_is_read.ensures

pub returns-clause-no_fault : goal.returns-clause-no_fault
returns-clause-no_fault c = no_client_meets_a_fault c.no_spelling_begins_another.ensures c.a_push_begins_with_its_byte.ensures
    c.a_rest_has_one_client_fault.ensures (returns-clause-read c)

pub returns-clause-nothing_else : goal.returns-clause-nothing_else
returns-clause-nothing_else c = what_is_read_is_shown c.a_text_has_one_reading.ensures (returns-clause-read c)

pub returns-clause-goes_on : goal.returns-clause-goes_on
returns-clause-goes_on c = what_is_left_may_go_on c.no_spelling_begins_another.ensures (returns-clause-read c)
