use Rattle.std.proofs.Common.{◌≡◌, ◌∙◌, List, ◌++◌, ap, arith, map, subst, sym}
use Rattle.resp_board.specs.declared.ticket.Ticket.{Ticket}
use Rattle.resp_board.specs.Boards.{Lose}
use Rattle.resp_board.specs.Histories.{with_event}
use Rattle.resp_board.specs.Joins.{Stands}
use Rattle.resp_board.specs.Runs.{begun_on}
use Rattle.resp_board.proofs.Running.{lost, still}
use Rattle.resp_board.proofs.board.Board.lose.Goals as goal

pub invariant_of-self : goal.invariant_of-self
invariant_of-self c =
    let m = c.reply_to_begun.new.self in
    let l = c.reconnect.new.lines.items in record {
      run = still m.clients.slots m.clients.slots m.lines.items l m.last m.last (λ h j. (
        with_event (Lose c.args.line.place 0 c.args.text.now) h,
        lost m.clients.slots m.lines.items l m.last h c.args.line.place 0 c.args.text.now c.reconnect.ensures.connected j,
      )) m.run;
    }

pub returns-clause-run : goal.returns-clause-run
returns-clause-run c h j =
    let m = c.reply_to_begun.new.self in
    let l = c.reconnect.new.lines.items in
    let some = c.reply_to_begun.ensures.some_answered in
    let all : some.count ≡ begun_on c.args.self.now c.args.line.place = omega (arith, some.begun, c.in_ok-reply_to_begun.ensures.all) in
    subst (λ n. Stands m.clients.slots l m.last (with_event (Lose c.args.line.place n c.args.text.now) h)) all
    (lost m.clients.slots m.lines.items l m.last h c.args.line.place some.count c.args.text.now c.reconnect.ensures.connected (some.run h j))

pub returns-clause-none_begun : goal.returns-clause-none_begun
returns-clause-none_begun c = c.reconnect.ensures.same_begun ∙ c.in_ok-reply_to_begun.ensures.all

pub returns-clause-answered : goal.returns-clause-answered
returns-clause-answered c =
    let line = c.args.line.place in
    let a = c.reply_to_begun.ensures.answered in
    record {
      answered = a.answered;
      first = a.first ∙ ap (λ (ts : List Ticket). a.answered ++ map (λ (t : Ticket). t.client) ts) (sym c.reconnect.ensures.same_waiting);
      few = a.few;
      others = a.others;
    }
