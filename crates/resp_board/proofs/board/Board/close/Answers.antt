use Rattle.resp_board.proofs.Running.{closed, still}
use Rattle.resp_board.proofs.board.Board.close.Goals as goal

pub invariant_of-self : goal.invariant_of-self
invariant_of-self c =
    let i = c.args.self.now in
    let s = c.close.new.clients.slots in record {
      run = still i.clients.slots s i.lines.items i.lines.items i.last i.last
          (λ h j. (h, closed i.clients.slots s i.lines.items i.last h c.args.who c.close.ensures j)) i.run;
    }
