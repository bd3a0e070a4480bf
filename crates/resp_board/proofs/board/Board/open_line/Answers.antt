use Rattle.std.proofs.Common.{◌≡◌, arith, length, refl}
use Rattle.std.proofs.lemmas.Grind.{common_steps}
use Rattle.resp_board.proofs.Running.{comes-last, line-run, line-somehow}
use Rattle.resp_board.proofs.board.Board.open_line.Goals as goal

pub invariant_of-self : goal.invariant_of-self
invariant_of-self c =
    let i = c.args.self.now in record {
      run = line-somehow c.push.result i.clients.slots i.lines.items c.push.new.self.items i.last c.new.result c.push.ensures.items c.new.ensures i.run;
    }

pub returns-clause-opened : goal.returns-clause-opened
returns-clause-opened c =
    let i = c.args.self.now in
    let size : c.len-place.result ≡ length i.lines.items = grind (arith, common_steps) in
    let l = comes-last i.lines.items c.push.new.self.items c.new.result c.len-place.result c.in_ok-push.ensures.items size in record {
      fresh = l.fresh;
      there = l.there;
      others = l.others;
      waiting = λ who. refl;
      last = refl;
      bounds = refl;
    }

pub returns-clause-run : goal.returns-clause-run
returns-clause-run c h j =
    let i = c.args.self.now in
    line-run c.push.result i.clients.slots i.lines.items c.push.new.self.items i.last h c.new.result c.push.ensures.items c.new.ensures j
