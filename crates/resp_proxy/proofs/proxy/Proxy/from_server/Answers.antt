use Rattle.std.proofs.Common.{◌++◌, Err, Ok, subst}
use Rattle.resp_frames.specs.Framing.{frame_rules}
use Rattle.resp_board.specs.Runs.{WhereRun}
use Rattle.resp_proxy.specs.Proxies.{Proxied, board_in}
use Rattle.resp_proxy.specs.ServerLines.{Lined, WhereBegunBy, expected_of, line_of, prober_of, reply_rules_of}
use Rattle.resp_proxy.specs.Probing.{KeepsStep}
use Rattle.resp_proxy.specs.Replying.{TakesReplies}
use Rattle.resp_proxy.proofs.Readings.{replies-lost}
use Rattle.resp_proxy.proofs.proxy.Proxy.from_server.Goals as goal

pub returns-clause-taken : goal.returns-clause-taken
returns-clause-taken c =
    let piece = c.args.piece.now in
    let taken = c.take_replies-taken.new in
    subst (λ (s : Proxied). WhereBegunBy c.args.line.now (λ front. WhereRun (board_in s) (λ p.
    TakesReplies (reply_rules_of c.args.line.now) (line_of c.args.line.now) (front ++ piece) taken.begun (Ok tt) p taken.board))) c.self.view_is
    (subst (λ (l : Lined). WhereBegunBy l (λ front. WhereRun c.self.inside.board (λ p.
    TakesReplies (reply_rules_of l) (line_of l) (front ++ piece) taken.begun (Ok tt) p taken.board))) c.line.view_is
    (λ front h p passed. c.in-Ok.ensures.taken c.line.invariant front h p passed))

pub returns-in-Err-clause-taken : goal.returns-in-Err-clause-taken
returns-in-Err-clause-taken c =
    let piece = c.args.piece.now in
    let taken = c.take_replies-taken.new in
    subst (λ (s : Proxied). WhereBegunBy c.args.line.now (λ front. WhereRun (board_in s) (λ p.
    TakesReplies (reply_rules_of c.args.line.now) (line_of c.args.line.now) (front ++ piece) c.forget.new.begun (Err c.in-Err.error) p taken.board))) c.self.view_is
    (subst (λ (l : Lined). WhereBegunBy l (λ front. WhereRun c.self.inside.board (λ p.
    TakesReplies (reply_rules_of l) (line_of l) (front ++ piece) c.forget.new.begun (Err c.in-Err.error) p taken.board))) c.line.view_is
    (λ front h p passed. replies-lost (frame_rules c.line.inside.replies) c.line.inside.id.place (front ++ piece) taken.begun c.forget.new.begun c.in-Err.error p taken.board
    (c.in-Err.ensures.taken c.line.invariant front h p passed)))

pub returns-clause-step : goal.returns-clause-step
returns-clause-step c =
    let taken = c.take_replies-taken.new in
    subst (λ (s : Proxied). WhereBegunBy c.args.line.now (λ front. WhereRun (board_in s) (λ p.
    KeepsStep (line_of c.args.line.now) (prober_of c.args.line.now) (expected_of c.args.line.now) (Ok tt) (board_in s) p taken.board))) c.self.view_is
    (subst (λ (l : Lined). WhereBegunBy l (λ front. WhereRun c.self.inside.board (λ p.
    KeepsStep (line_of l) (prober_of l) (expected_of l) (Ok tt) c.self.inside.board p taken.board))) c.line.view_is
    (λ front h p passed. c.in-Ok.ensures.step c.line.invariant front h p passed))

pub returns-in-Err-clause-step : goal.returns-in-Err-clause-step
returns-in-Err-clause-step c =
    let taken = c.take_replies-taken.new in
    subst (λ (s : Proxied). WhereBegunBy c.args.line.now (λ front. WhereRun (board_in s) (λ p.
    KeepsStep (line_of c.args.line.now) (prober_of c.args.line.now) (expected_of c.args.line.now) (Err c.in-Err.error) (board_in s) p taken.board))) c.self.view_is
    (subst (λ (l : Lined). WhereBegunBy l (λ front. WhereRun c.self.inside.board (λ p.
    KeepsStep (line_of l) (prober_of l) (expected_of l) (Err c.in-Err.error) c.self.inside.board p taken.board))) c.line.view_is
    (λ front h p passed. c.in-Err.ensures.step c.line.invariant front h p passed))
