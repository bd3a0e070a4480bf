use Rattle.resp_session.proofs.CommandWords.{a_command_is_its_words}
use Rattle.resp_session.proofs.laws.a_command_is_its_words.Goals as goal

pub returns : goal.returns
returns c = a_command_is_its_words
