use Rattle.std.proofs.Common.{◌≡◌, ◌∙◌, Some, ap, arith, slice_get, sym}
use Rattle.std.specs.Option.{option_map}
use Rattle.resp_board.specs.Boards.{Lose}
use Rattle.resp_board.specs.Histories.{with_event}
use Rattle.resp_board.specs.Desks.{out_of}
use Rattle.resp_board.specs.Rows.{tickets_in}
use Rattle.resp_board.specs.Runs.{waiting_on}
use Rattle.resp_board.proofs.Failing.{none-first}
use Rattle.resp_board.proofs.Joining.{failed-first, seat-kept}
use Rattle.resp_board.proofs.Answered.{one-answered}
use Rattle.resp_board.proofs.Running.{first-awaited, owner-is, still}
use Rattle.resp_board.proofs.board.Board.fail_first.Goals as goal

pub answer-requires : goal.answer-requires
answer-requires c =
    let i = c.args.self.now in
    let first : slice_get (tickets_in (slice_get i.lines.items c.args.line.place)) 0 ≡ Some c.in-Some.ticket = sym c.first.ensures ∙ c.in-Some.is in
    first-awaited i.clients.slots i.lines.items i.last c.args.line.place c.in-Some.ticket first i.run

pub invariant_of-self : goal.invariant_of-self
invariant_of-self c =
    let i = c.args.self.now in
    let s = c.answer.new.clients.slots in record {
      run = still i.clients.slots s i.lines.items i.lines.items i.last i.last
          (λ h j. (h, seat-kept i.clients.slots s i.lines.items i.last h c.in-Some.ticket.client c.in_err-answer.ensures.unchanged j)) i.run;
    }

pub invariant_of-self-in-Some : goal.invariant_of-self-in-Some
invariant_of-self-in-Some c =
    let i = c.args.self.now in
    let first : slice_get (tickets_in (slice_get i.lines.items c.args.line.place)) 0 ≡ Some c.in-Some.ticket = sym c.first.ensures ∙ c.in-Some.is in
    let s = c.answer.new.clients.slots in
    let l = c.remove_first.new.lines.items in record {
      run = still i.clients.slots s i.lines.items l i.last i.last (λ h j. (
        with_event (Lose c.args.line.place 1 c.args.text.now) h,
        failed-first i.clients.slots s i.lines.items l i.last h c.args.line.place c.in-Some.ticket c.args.text.now first c.in_ok-answer.ensures.answered
            c.remove_first.ensures.removed j,
      )) i.run;
    }

pub returns-in_ok-answer-clause-run : goal.returns-in_ok-answer-clause-run
returns-in_ok-answer-clause-run c h j =
    let i = c.args.self.now in
    let first : slice_get (tickets_in (slice_get i.lines.items c.args.line.place)) 0 ≡ Some c.in-Some.ticket = sym c.first.ensures ∙ c.in-Some.is in
    failed-first i.clients.slots c.answer.new.clients.slots i.lines.items c.remove_first.new.lines.items i.last h c.args.line.place c.in-Some.ticket
    c.args.text.now first c.in_ok-answer.ensures.answered c.remove_first.ensures.removed j

pub returns-in_default-clause-run : goal.returns-in_default-clause-run
returns-in_default-clause-run c =
    let none = none-first (waiting_on c.args.self.now c.args.line.place) c.first.result c.first.ensures c.in_default.not-Some in
    absurd (omega (arith, none, c.requires.some))

pub returns-in_default-clause-answered : goal.returns-in_default-clause-answered
returns-in_default-clause-answered c =
    let none = none-first (waiting_on c.args.self.now c.args.line.place) c.first.result c.first.ensures c.in_default.not-Some in
    absurd (omega (arith, none, c.requires.some))

pub returns-in_default-clause-rest : goal.returns-in_default-clause-rest
returns-in_default-clause-rest c =
    let none = none-first (waiting_on c.args.self.now c.args.line.place) c.first.result c.first.ensures c.in_default.not-Some in
    absurd (omega (arith, none, c.requires.some))

pub returns-in_ok-answer-clause-answered : goal.returns-in_ok-answer-clause-answered
returns-in_ok-answer-clause-answered c =
    let i = c.args.self.now in
    let first : slice_get (tickets_in (slice_get i.lines.items c.args.line.place)) 0 ≡ Some c.in-Some.ticket = sym c.first.ensures ∙ c.in-Some.is in
    one-answered c.args.line.place i _ c.in-Some.ticket.client
    (owner-is (tickets_in (slice_get i.lines.items c.args.line.place)) (tickets_in (slice_get c.remove_first.new.lines.items c.args.line.place)) c.in-Some.ticket
    first c.remove_first.ensures.rest)
    (λ other apart. ap (option_map out_of) (c.in_ok-answer.ensures.answered.others other apart))
