use Rattle.resp_value.proofs.RefusedExamples.{newline_in_a_line, no_digits, map_closed_after_a_key, streamed_push, streamed_attribute, push_below_the_top}
use Rattle.resp_value.proofs.laws.texts_and_their_causes.Goals as goal

pub returns-clause-newline_in_a_line : goal.returns-clause-newline_in_a_line
returns-clause-newline_in_a_line c = newline_in_a_line

pub returns-clause-no_digits : goal.returns-clause-no_digits
returns-clause-no_digits c = no_digits

pub returns-clause-map_closed_after_a_key : goal.returns-clause-map_closed_after_a_key
returns-clause-map_closed_after_a_key c = map_closed_after_a_key

pub returns-clause-streamed_push : goal.returns-clause-streamed_push
returns-clause-streamed_push c = streamed_push

pub returns-clause-streamed_attribute : goal.returns-clause-streamed_attribute
returns-clause-streamed_attribute c = streamed_attribute

pub returns-clause-push_below_the_top : goal.returns-clause-push_below_the_top
returns-clause-push_below_the_top c = push_below_the_top
