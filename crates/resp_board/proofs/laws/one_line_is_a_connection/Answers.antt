use Rattle.resp_board.proofs.OneLine.{one_line}
use Rattle.resp_board.proofs.laws.one_line_is_a_connection.Goals as goal

pub returns : goal.returns
returns c = one_line
