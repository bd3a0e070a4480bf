use Rattle.std.proofs.Common.{IfSome, length, refl, subst, sym}
use Rattle.resp_board.specs.Histories.{with_given}
use Rattle.resp_board.specs.Runs.{HasRun, WhereRun, waiting_for}
use Rattle.resp_proxy.specs.Proxies.{board_in}
use Rattle.resp_proxy.specs.ServerLines.{prober_of}
use Rattle.resp_proxy.proofs.Probings.{all-given}
use Rattle.resp_proxy.proofs.proxy.Proxy.settle_probes.Goals as goal

pub returns-clause-given : goal.returns-clause-given
returns-clause-given c =
    let m = c.self.inside.board in
    let new = c.given.new.self in
    subst (λ s. IfSome (prober_of c.args.line.now) (λ who. WhereRun (board_in s) (λ p. IfSome (waiting_for (board_in s) who) (λ text.
    HasRun new (with_given who text p))))) c.self.view_is
    (subst (λ l. IfSome (prober_of l) (λ who. WhereRun m (λ p. IfSome (waiting_for m who) (λ text. HasRun new (with_given who text p))))) c.line.view_is
    (subst (λ o. IfSome o (λ who. WhereRun m (λ p. IfSome (waiting_for m who) (λ text. HasRun new (with_given who text p))))) (sym c.in-Some.is)
    (λ p passed. all-given (waiting_for m c.in-Some.who) c.in-Some-to_client.text.now (length c.in-Some-to_client.text.now) c.in-Some.who new p
    (sym c.in-Some-to_client.ensures.waiting) refl (c.given.ensures.run p passed))))
