use Rattle.std.proofs.Common.{[], take, unwrap_or}
use Rattle.resp_board.specs.Seats.{bytes_in}
use Rattle.resp_board.proofs.Running.{given-somehow}
use Rattle.resp_board.proofs.board.Board.given.Goals as goal

pub invariant_of-self : goal.invariant_of-self
invariant_of-self c =
    let i = c.args.self.now in record {
      run = given-somehow i.clients.slots c.remove.new.clients.slots i.lines.items i.last c.args.who
          (take c.args.count (unwrap_or (bytes_in i.clients.slots c.args.who) [])) c.remove.ensures i.run;
    }
