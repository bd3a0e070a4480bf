use Rattle.std.proofs.Common.{◌≡◌, arith, is_some, true}
use Rattle.std.proofs.lemmas.Grind.{common_steps}
use Rattle.resp_board.specs.Seats.{desk_in}
use Rattle.resp_board.proofs.Joining.{owned}
use Rattle.resp_board.proofs.Running.{own-somehow}
use Rattle.resp_board.proofs.board.Board.own.Goals as goal

pub invariant_of-self : goal.invariant_of-self
invariant_of-self c =
    let i = c.args.self.now in
    let there : is_some (desk_in i.clients.slots c.args.who) ≡ true = grind (arith, common_steps) in record {
      run = own-somehow c.own.result i.clients.slots c.own.new.clients.slots i.lines.items i.last c.args.who c.args.text.now there c.own.ensures.answered
          c.own.ensures.unchanged i.run;
    }

pub returns-in-Ok-clause-run : goal.returns-in-Ok-clause-run
returns-in-Ok-clause-run c h j =
    let i = c.args.self.now in
    let there : is_some (desk_in i.clients.slots c.args.who) ≡ true = grind (arith, common_steps) in
    owned i.clients.slots c.own.new.clients.slots i.lines.items i.last h c.args.who c.args.text.now there c.in-Ok.ensures.answered j
