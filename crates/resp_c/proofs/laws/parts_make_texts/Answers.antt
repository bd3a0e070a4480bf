use Rattle.resp_c.proofs.RoomTexts.{head_and_words}
use Rattle.resp_c.proofs.laws.parts_make_texts.Goals as goal

pub returns-clause-command : goal.returns-clause-command
returns-clause-command c = head_and_words
