use Rattle.std.proofs.Common.{arith}
use Rattle.resp_board.specs.Runs.{begun_on}
use Rattle.resp_board.proofs.Answered.{answered-before, begun-more, begun-none}
use Rattle.resp_board.proofs.Running.{answered-more, answered-none, answered-same, open-itself, open-more}
use Rattle.resp_board.proofs.board.Board.reply_to_begun.Goals as goal

pub loop-line-init : goal.loop-line-init
loop-line-init c =
    let line = c.args.line.place in
    let m = c.args.self.now in
    (answered-none line c.args.text.now m, open-itself m, begun-none line m)

pub loop-line-smaller : goal.loop-line-smaller
loop-line-smaller c = omega (arith, c.in-Ok.ensures.fewer)

pub loop-line-preserved : goal.loop-line-preserved
loop-line-preserved c =
    let l = c.loop-line in
    let line = c.args.line.place in
    let old = c.args.self.now in
    let new = c.reply.new.self in
    let one = c.in-Ok.ensures in (
      answered-more line c.args.text.now old l.self new l.invariant.0 one.fewer one.run,
      open-more old l.self new l.invariant.1 one.same_open,
      begun-more line old l.self new c.in-Ok.field-0 l.invariant.2 one.owner one.others one.fewer,
    )

pub returns-in_default-clause-some_answered : goal.returns-in_default-clause-some_answered
returns-in_default-clause-some_answered c =
    let l = c.loop-line in
    let u = c.in_default.ensures.unchanged in
    answered-same c.args.line.place c.args.text.now c.args.self.now l.self c.reply.new.self l.invariant.0 u.begun u.run

pub returns-in_default-clause-answered : goal.returns-in_default-clause-answered
returns-in_default-clause-answered c =
    let l = c.loop-line in
    let u = c.in_default.ensures.unchanged in
    answered-before c.args.line.place (begun_on c.args.self.now c.args.line.place) c.args.self.now l.self c.reply.new.self l.invariant.2.0 u

pub returns-in_default-clause-same_open : goal.returns-in_default-clause-same_open
returns-in_default-clause-same_open c =
    let l = c.loop-line in open-more c.args.self.now l.self c.reply.new.self l.invariant.1 c.in_default.ensures.same_open

pub returns-clause-answered : goal.returns-clause-answered
returns-clause-answered c = c.loop-line.invariant.2.0
