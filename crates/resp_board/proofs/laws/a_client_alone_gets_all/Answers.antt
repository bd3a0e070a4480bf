use Rattle.resp_board.proofs.Zips.{alone}
use Rattle.resp_board.proofs.laws.a_client_alone_gets_all.Goals as goal

pub returns : goal.returns
returns c = alone
