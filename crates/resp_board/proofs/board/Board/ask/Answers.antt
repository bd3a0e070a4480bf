use Rattle.std.proofs.Common.{◌≡◌, Some, ap, arith, false, is_some, sym, true, ◌∙◌}
use Rattle.std.proofs.lemmas.Grind.{common_steps}
use Rattle.resp_board.specs.Boards.{Ask}
use Rattle.resp_board.specs.Histories.{with_event}
use Rattle.resp_board.specs.Seats.{desk_in}
use Rattle.resp_board.proofs.Joining.{asked, row-kept}
use Rattle.resp_board.proofs.Running.{next-is, some-row, still}
use Rattle.resp_board.proofs.board.Board.ask.Goals as goal

pub invariant_of-self : goal.invariant_of-self
invariant_of-self c =
    let i = c.args.self.now in
    let l = c.push.new.lines.items in record {
      run = still i.clients.slots i.clients.slots i.lines.items l i.last i.last
          (λ h j. (h, row-kept i.clients.slots i.lines.items l i.last h c.args.line.place c.in_default-push.ensures.unchanged j)) i.run;
    }

pub returns-in_default-push-clause-unchanged : goal.returns-in_default-push-clause-unchanged
returns-in_default-push-clause-unchanged c h j =
    let i = c.args.self.now in
    row-kept i.clients.slots i.lines.items c.push.new.lines.items i.last h c.args.line.place c.in_default-push.ensures.unchanged j

pub invariant_of-self-2 : goal.invariant_of-self-2
invariant_of-self-2 c =
    let i = c.args.self.now in
    let is : desk_in i.clients.slots c.args.who ≡ Some c.in-Some.desk.now = grind (arith, common_steps) in
    let row = some-row i.lines.items c.args.line.place (grind (arith, common_steps)) in
    record {
      run = still i.clients.slots c.ask.new.clients.slots i.lines.items c.push.new.lines.items i.last i.last (λ h j. (
        with_event (Ask c.args.who c.args.line.place c.args.text.now) h,
        asked i.clients.slots c.ask.new.clients.slots i.lines.items c.push.new.lines.items i.last h c.args.who c.args.line.place c.in-Ok.number
            c.args.text.now (ap is_some is) row (next-is i.clients.slots i.lines.items i.last h c.args.who c.in-Some.desk.now c.in-Ok.number is c.in-Ok.ensures.next j)
            c.ask.ensures c.in-Ok-push.ensures.queued j,
      )) i.run;
    }

pub returns-clause-run : goal.returns-clause-run
returns-clause-run c h j =
    let i = c.args.self.now in
    let is : desk_in i.clients.slots c.args.who ≡ Some c.in-Some.desk.now = grind (arith, common_steps) in
    let row = some-row i.lines.items c.args.line.place (grind (arith, common_steps)) in
    asked i.clients.slots c.ask.new.clients.slots i.lines.items c.push.new.lines.items i.last h c.args.who c.args.line.place c.in-Ok.number
    c.args.text.now (ap is_some is) row (next-is i.clients.slots i.lines.items i.last h c.args.who c.in-Some.desk.now c.in-Ok.number is c.in-Ok.ensures.next j)
    c.ask.ensures c.in-Ok-push.ensures.queued j

pub returns-in_default-push-clause-no_line : goal.returns-in_default-push-clause-no_line
returns-in_default-push-clause-no_line c =
    let i = c.args.self.now in
    let row = some-row i.lines.items c.args.line.place (grind (arith, common_steps)) in (
      λ e. absurd (cc),
      λ l. let wrong : true ≡ false = sym row ∙ l.1 in absurd (cc),
    )

pub returns-clause-no_line : goal.returns-clause-no_line
returns-clause-no_line c =
    let i = c.args.self.now in
    let row = some-row i.lines.items c.args.line.place (grind (arith, common_steps)) in (
      λ e. absurd (cc),
      λ l. let wrong : true ≡ false = sym row ∙ l.1 in absurd (cc),
    )
