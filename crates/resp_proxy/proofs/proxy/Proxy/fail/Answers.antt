use Rattle.std.proofs.Common.{OnErr, inl, length, subst, take}
use Rattle.std.specs.Prelude.{OnOk}
use Rattle.resp_board.specs.Boards.{Fail}
use Rattle.resp_board.specs.Runs.{Runs, clients_on, waiting_on}
use Rattle.resp_board.proofs.Failing.{on-err}
use Rattle.resp_board.proofs.Running.{answered-none}
use Rattle.resp_proxy.specs.Failing.{FailsSome}
use Rattle.resp_proxy.specs.Proxies.{board_in, replied_to}
use Rattle.resp_proxy.specs.ServerLines.{line_of}
use Rattle.resp_proxy.specs.Telling.{Covers, Tells}
use Rattle.resp_proxy.proofs.Tellings.{tells-all, tells-nobody}
use Rattle.resp_proxy.proofs.proxy.Proxy.fail.Goals as goal

pub returns-clause-run : goal.returns-clause-run
returns-clause-run c =
    subst (λ s. OnOk c.fail.result (Runs (Fail (line_of c.args.line.now) c.args.text.now) (board_in s) c.fail.new.self)) c.self.view_is
    (subst (λ l. OnOk c.fail.result (Runs (Fail (line_of l) c.args.text.now) c.self.inside.board c.fail.new.self)) c.line.view_is c.fail.ensures.run)

pub returns-clause-some_answered : goal.returns-clause-some_answered
returns-clause-some_answered c =
    subst (λ s. OnErr c.fail.result (FailsSome (line_of c.args.line.now) c.args.text.now (board_in s) c.fail.new.self)) c.self.view_is
    (subst (λ l. OnErr c.fail.result (FailsSome (line_of l) c.args.text.now c.self.inside.board c.fail.new.self)) c.line.view_is
    c.fail.ensures.some_answered)

pub returns-clause-told : goal.returns-clause-told
returns-clause-told c =
    let i = c.self.inside in
    let line = c.line.inside.id.place in
    let queued = c.note_first.new.queued.items in
    subst (λ s. Tells (line_of c.args.line.now) (replied_to s) queued (board_in s) c.fail.new.self) c.self.view_is
    (subst (λ l. Tells (line_of l) i.replied.items queued i.board c.fail.new.self) c.line.view_is
    (tells-all line (length (waiting_on i.board line)) i.replied.items queued i.board c.fail.new.self c.note_first.ensures.noted
    (subst (λ n. Covers (take n (clients_on i.board line)) queued) c.waiting-all.ensures c.in_ok-note_first.ensures.all)
    c.fail.ensures.answered))

pub returns-in_err-note_first-clause-some_answered : goal.returns-in_err-note_first-clause-some_answered
returns-in_err-note_first-clause-some_answered c =
    let i = c.self.inside in
    on-err c.from_residual.result (FailsSome (line_of c.args.line.now) c.args.text.now (board_in c.args.self.now) i.board)
    (subst (λ s. FailsSome (line_of c.args.line.now) c.args.text.now (board_in s) i.board) c.self.view_is
    (inl (answered-none (line_of c.args.line.now) c.args.text.now i.board)))

pub returns-in_err-note_first-clause-told : goal.returns-in_err-note_first-clause-told
returns-in_err-note_first-clause-told c =
    let i = c.self.inside in
    let queued = c.note_first.new.queued.items in
    subst (λ s. Tells (line_of c.args.line.now) (replied_to s) queued (board_in s) i.board) c.self.view_is
    (subst (λ l. Tells (line_of l) i.replied.items queued i.board i.board) c.line.view_is
    (tells-nobody c.line.inside.id.place i.replied.items queued i.board c.note_first.ensures.noted))
