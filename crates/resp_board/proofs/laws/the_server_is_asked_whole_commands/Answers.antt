use Rattle.resp_board.proofs.Wholes.{whole_commands}
use Rattle.resp_board.proofs.laws.the_server_is_asked_whole_commands.Goals as goal

pub returns : goal.returns
returns c = whole_commands
