use Rattle.resp_session.proofs.InlineCommand.{an_inline_command_is_refused}
use Rattle.resp_session.proofs.laws.an_inline_command_is_refused.Goals as goal

pub returns : goal.returns
returns c = an_inline_command_is_refused c.no_spelling_is_empty.ensures c.fronts_of_spellings_are_viable.ensures c.the_empty_text_is_viable.ensures
    c.no_other_byte_begins_a_tree.ensures
