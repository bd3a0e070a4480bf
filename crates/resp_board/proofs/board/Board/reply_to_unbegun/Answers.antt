use Rattle.std.proofs.Common.{arith, length}
use Rattle.std.proofs.lemmas.List.{length-drop}
use Rattle.resp_board.specs.Runs.{waiting_on}
use Rattle.resp_board.proofs.Answered.{answered-before, joined-answered, none-answered}
use Rattle.resp_board.proofs.Failing.{failed-more, failed-none, failed-same}
use Rattle.resp_board.proofs.Running.{open-itself, open-more}
use Rattle.resp_board.proofs.board.Board.reply_to_unbegun.Goals as goal

pub loop-line-init : goal.loop-line-init
loop-line-init c = (
  failed-none c.args.line.place c.args.text.now c.args.self.now,
  c.requires,
  open-itself c.args.self.now,
  none-answered c.args.line.place (length (waiting_on c.args.self.now c.args.line.place)) c.args.self.now,
)

pub loop-line-smaller : goal.loop-line-smaller
loop-line-smaller c = grind (arith, length-drop)

pub loop-line-preserved : goal.loop-line-preserved
loop-line-preserved c =
    let l = c.loop-line in
    let m = c.fail_first.new.self in (
      failed-more c.args.line.place c.args.text.now c.args.self.now l.self m l.invariant.0 c.in_ok-fail_first.ensures.run,
      c.in_ok-fail_first.ensures.none_begun,
      open-more c.args.self.now l.self m l.invariant.2 c.in_ok-fail_first.ensures.same_open,
      joined-answered c.args.line.place (length (waiting_on c.args.self.now c.args.line.place)) 1 c.args.self.now l.self m l.invariant.3
          c.in_ok-fail_first.ensures.answered,
    )

pub returns-in_err-fail_first-clause-some_failed : goal.returns-in_err-fail_first-clause-some_failed
returns-in_err-fail_first-clause-some_failed c =
    let l = c.loop-line in
    failed-same c.args.line.place c.args.text.now c.args.self.now l.self c.fail_first.new.self l.invariant.0 c.in_err-fail_first.ensures.unchanged.run

pub returns-in_err-fail_first-clause-same_open : goal.returns-in_err-fail_first-clause-same_open
returns-in_err-fail_first-clause-same_open c =
    let l = c.loop-line in open-more c.args.self.now l.self c.fail_first.new.self l.invariant.2 c.in_err-fail_first.ensures.same_open

pub returns-in_err-fail_first-clause-answered : goal.returns-in_err-fail_first-clause-answered
returns-in_err-fail_first-clause-answered c =
    let l = c.loop-line in
    answered-before c.args.line.place (length (waiting_on c.args.self.now c.args.line.place)) c.args.self.now l.self c.fail_first.new.self l.invariant.3
    c.in_err-fail_first.ensures.unchanged

pub returns-clause-answered : goal.returns-clause-answered
returns-clause-answered c = c.loop-line.invariant.3
