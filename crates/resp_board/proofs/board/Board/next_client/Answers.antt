use Rattle.std.proofs.Common.{◌∙◌, sym}
use Rattle.resp_board.specs.Runs.{waiting_on}
use Rattle.resp_board.proofs.Running.{owner-first, owner-none}
use Rattle.resp_board.proofs.board.Board.next_client.Goals as goal

pub returns-in-Some : goal.returns-in-Some
returns-in-Some c = sym (owner-first (waiting_on c.args.self.now c.args.line.place) c.in-Some.ticket (sym c.first.ensures ∙ c.in-Some.is))

pub returns-in-None : goal.returns-in-None
returns-in-None c = sym (owner-none (waiting_on c.args.self.now c.args.line.place) (sym c.first.ensures ∙ c.in-None.is))
