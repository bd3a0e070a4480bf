use Rattle.std.proofs.Common.{◌∙◌, IfSome, ap, subst, sym}
use Rattle.resp_board.specs.Boards.{Ask}
use Rattle.resp_board.specs.Runs.{Runs}
use Rattle.resp_proxy.specs.Probing.{echo_text, echoed_text}
use Rattle.resp_proxy.specs.Proxies.{board_in}
use Rattle.resp_proxy.specs.ServerLines.{Lined, line_of, prober_of}
use Rattle.resp_proxy.proofs.Probings.{cut-again}
use Rattle.resp_proxy.proofs.proxy.Proxy.probe.Goals as goal

pub returns-in-Ok-ask-clause-probed : goal.returns-in-Ok-ask-clause-probed
returns-in-Ok-ask-clause-probed c =
    let i = c.self.inside in
    let line = c.line.inside.id.place in
    let new = c.ask.new.self in
    let word = c.args.word.now in
    subst (λ s. IfSome (prober_of c.args.line.now) (λ who. Runs (Ask who (line_of c.args.line.now) (echo_text word)) (board_in s) new)) c.self.view_is
    (subst (λ l. IfSome (prober_of l) (λ who. Runs (Ask who (line_of l) (echo_text word)) i.board new)) c.line.view_is
    (subst (λ o. IfSome o (λ who. Runs (Ask who line (echo_text word)) i.board new)) (sym c.in-Some.is)
    (subst (λ t. Runs (Ask c.in-Some.who line t) i.board new) (c.deref.ensures.value ∙ c.in-Ok.ensures) c.in-Ok-ask.ensures.run)))

pub returns-clause-same_expected : goal.returns-clause-same_expected
returns-clause-same_expected c =
    cut-again c.expect.result c.line.inside.prober.expected.items c.expect.new.self.expected.items c.truncate.new.self.items (echoed_text c.args.word.now)
    c.len-before.result (sym c.is_err.ensures.value ∙ c.if-is_err.false) c.expect.ensures.expected c.len-before.ensures.value c.truncate.ensures.items ∙
    ap (λ (l : Lined). l.expected) c.line.view_is
