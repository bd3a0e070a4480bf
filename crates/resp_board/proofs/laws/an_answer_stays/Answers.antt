use Rattle.resp_board.proofs.Waits.{answer_stays}
use Rattle.resp_board.proofs.laws.an_answer_stays.Goals as goal

pub returns : goal.returns
returns c = answer_stays
