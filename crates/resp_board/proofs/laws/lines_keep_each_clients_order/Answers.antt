use Rattle.resp_board.proofs.Orders.{in_order}
use Rattle.resp_board.proofs.laws.lines_keep_each_clients_order.Goals as goal

pub returns : goal.returns
returns c = in_order
