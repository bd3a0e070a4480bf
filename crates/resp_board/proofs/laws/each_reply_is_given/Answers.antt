use Rattle.resp_board.proofs.Alike.{reply_given}
use Rattle.resp_board.proofs.laws.each_reply_is_given.Goals as goal

pub returns : goal.returns
returns c = reply_given
