use Rattle.resp_board.proofs.Waits.{waits_once}
use Rattle.resp_board.proofs.laws.a_part_waits_once.Goals as goal

pub returns : goal.returns
returns c = waits_once
