use Rattle.resp_board.proofs.Tickets.{finds}
use Rattle.resp_board.proofs.laws.a_ticket_finds_its_command.Goals as goal

pub returns : goal.returns
returns c = finds
