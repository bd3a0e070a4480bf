use Rattle.resp_board.proofs.Alike.{others_change_nothing}
use Rattle.resp_board.proofs.laws.others_answers_change_nothing.Goals as goal

pub returns : goal.returns
returns c = others_change_nothing
