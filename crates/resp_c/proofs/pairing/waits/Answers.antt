use Rattle.std.proofs.Common.{arith}
use Rattle.resp_c.proofs.Asks.{length-hello, length-plain}
use Rattle.resp_c.proofs.pairing.waits.Goals as goal

pub returns-then-pairing-eq0 : goal.returns-then-pairing-eq0
returns-then-pairing-eq0 c = let p = c.args.pairing.now in
    omega (arith, length-plain p.before p.hello p.beyond c.if-pairing-eq0.true)

pub returns : goal.returns
returns c = let p = c.args.pairing.now in
    omega (arith, length-hello p.before p.hello p.beyond c.if-pairing-eq0.false, c.saturating_add.ensures, c.saturating_add-others.ensures)
