use Rattle.std.proofs.Common.{◌+◌, subst, sym}
use Rattle.resp_board.specs.Joins.{StandsSomehow}
use Rattle.resp_board.proofs.Running.{opened, still}
use Rattle.resp_board.proofs.board.Board.open.Goals as goal

pub invariant_of-self : goal.invariant_of-self
invariant_of-self c =
    let i = c.args.self.now in record { run = subst (λ ss. StandsSomehow ss i.lines.items i.last) (sym c.in_default.ensures.unchanged) i.run }

pub invariant_of-self-2 : goal.invariant_of-self-2
invariant_of-self-2 c =
    let i = c.args.self.now in
    let s = c.open.new.clients.slots in record {
      run = still i.clients.slots s i.lines.items i.lines.items i.last (i.last + 1)
          (λ h j. (h, opened i.clients.slots s i.lines.items i.last h c.in-Ok.who c.in-Ok.ensures.number c.in-Ok.ensures.opened j)) i.run;
    }

pub returns-clause-run : goal.returns-clause-run
returns-clause-run c h j =
    let i = c.args.self.now in
    opened i.clients.slots c.open.new.clients.slots i.lines.items i.last h c.in-Ok.who c.in-Ok.ensures.number c.in-Ok.ensures.opened j
