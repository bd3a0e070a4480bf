use Rattle.std.proofs.Common.{slice_get}
use Rattle.resp_board.specs.Boards.{Reply}
use Rattle.resp_board.specs.Histories.{with_event}
use Rattle.resp_board.specs.Rows.{tickets_in}
use Rattle.resp_board.proofs.Joining.{replied, seat-kept}
use Rattle.resp_board.proofs.Running.{first-awaited, owner-is, still}
use Rattle.resp_board.proofs.board.Board.reply.Goals as goal

pub answer-requires : goal.answer-requires
answer-requires c =
    let i = c.args.self.now in first-awaited i.clients.slots i.lines.items i.last c.args.line.place c.in-Some.ticket c.in-Some.ensures.first i.run

pub invariant_of-self : goal.invariant_of-self
invariant_of-self c =
    let i = c.args.self.now in
    let s = c.answer.new.clients.slots in record {
      run = still i.clients.slots s i.lines.items i.lines.items i.last i.last
          (λ h j. (h, seat-kept i.clients.slots s i.lines.items i.last h c.in-Some.ticket.client c.in_default-answer.ensures.unchanged j)) i.run;
    }

pub invariant_of-self-2 : goal.invariant_of-self-2
invariant_of-self-2 c =
    let i = c.args.self.now in
    let s = c.answer.new.clients.slots in
    let l = c.pop.new.lines.items in record {
      run = still i.clients.slots s i.lines.items l i.last i.last (λ h j. (
        with_event (Reply c.args.line.place c.args.text.now) h,
        replied i.clients.slots s i.lines.items l i.last h c.args.line.place c.in-Some.ticket c.args.text.now c.in-Some.ensures.first
            c.in-Ok.ensures.answered c.pop.ensures.answered j,
      )) i.run;
    }

pub returns-clause-run : goal.returns-clause-run
returns-clause-run c h j =
    let i = c.args.self.now in
    replied i.clients.slots c.answer.new.clients.slots i.lines.items c.pop.new.lines.items i.last h c.args.line.place c.in-Some.ticket c.args.text.now
    c.in-Some.ensures.first c.in-Ok.ensures.answered c.pop.ensures.answered j

pub returns-clause-owner : goal.returns-clause-owner
returns-clause-owner c =
    let i = c.args.self.now in
    owner-is (tickets_in (slice_get i.lines.items c.args.line.place)) (tickets_in (slice_get c.pop.new.lines.items c.args.line.place)) c.in-Some.ticket
    c.in-Some.ensures.first c.pop.ensures.rest
