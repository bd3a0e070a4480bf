use Rattle.resp_board.proofs.Alike.{its_owners}
use Rattle.resp_board.proofs.laws.a_reply_is_its_owners_alone.Goals as goal

pub returns : goal.returns
returns c = its_owners
