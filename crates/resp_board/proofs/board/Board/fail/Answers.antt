use Rattle.std.proofs.Common.{◌⊎◌, inr, length}
use Rattle.std.proofs.lemmas.Result.{on_ok_weaker}
use Rattle.resp_board.specs.Runs.{HasAnsweredSome, HasLostSome, begun_on, waiting_on}
use Rattle.resp_board.proofs.Answered.{joined-answered, of-those-that-waited}
use Rattle.resp_board.proofs.Failing.{failed, lost-some, on-err}
use Rattle.resp_board.proofs.Running.{open-more}
use Rattle.resp_board.proofs.board.Board.fail.Goals as goal

pub returns-clause-run : goal.returns-clause-run
returns-clause-run c =
    let line = c.args.line.place in
    let text = c.args.text.now in
    let old = c.args.self.now in
    let new = c.reply_to_unbegun.new.self in
    let some = lost-some line text old c.lose.new.self new (begun_on old line) c.in_ok-lose.ensures.run c.reply_to_unbegun.ensures.some_failed in
    on_ok_weaker c.reply_to_unbegun.result (λ none. λ h j. failed new.clients.slots new.lines.items new.last h line some.count text none (some.run h j))
    c.reply_to_unbegun.ensures.none_waits

pub returns-clause-some_answered : goal.returns-clause-some_answered
returns-clause-some_answered c =
    let line = c.args.line.place in
    let text = c.args.text.now in
    let old = c.args.self.now in
    let new = c.reply_to_unbegun.new.self in
    let some = lost-some line text old c.lose.new.self new (begun_on old line) c.in_ok-lose.ensures.run c.reply_to_unbegun.ensures.some_failed in
    on-err c.reply_to_unbegun.result (HasAnsweredSome line text old new ⊎ HasLostSome line text old new) (inr some)

pub returns-clause-same_open : goal.returns-clause-same_open
returns-clause-same_open c =
    open-more c.args.self.now c.lose.new.self c.reply_to_unbegun.new.self c.lose.ensures.same_open c.reply_to_unbegun.ensures.same_open

pub returns-clause-answered : goal.returns-clause-answered
returns-clause-answered c =
    let line = c.args.line.place in
    let mid = c.lose.new.self in
    joined-answered line (begun_on c.args.self.now line) (length (waiting_on mid line)) c.args.self.now mid c.reply_to_unbegun.new.self
    c.lose.ensures.answered c.reply_to_unbegun.ensures.answered

pub returns-in_err-lose-clause-answered : goal.returns-in_err-lose-clause-answered
returns-in_err-lose-clause-answered c =
    let line = c.args.line.place in
    of-those-that-waited line (begun_on c.args.self.now line) c.args.self.now c.lose.new.self c.lose.ensures.answered
