use Rattle.std.proofs.Common.{ap, arith}
use Rattle.resp_session.specs.Reading.{Waiting}
use Rattle.resp_c.specs.Versions.{version_of}
use Rattle.resp_c.proofs.Asks.{length-hello, length-plain, queued_before, queued_beyond}
use Rattle.resp_c.proofs.pairing.resp_pairing_queue.Goals as goal

pub overflow_add-pairing : goal.overflow_add-pairing
overflow_add-pairing c = let p = c.args.pairing.now in
    omega (arith, c.saturating_add-queued.ensures, c.if-queued.false, c.waits.ensures, length-plain p.before p.hello p.beyond c.if-pairing-eq0.true)

pub overflow_add-pairing-else-pairing-eq0 : goal.overflow_add-pairing-else-pairing-eq0
overflow_add-pairing-else-pairing-eq0 c = let p = c.args.pairing.now in
    omega (arith, c.saturating_add-queued.ensures, c.if-queued.false, c.waits.ensures, length-hello p.before p.hello p.beyond c.if-pairing-eq0.false)

pub returns-then-pairing-eq0-clause-queued : goal.returns-then-pairing-eq0-clause-queued
returns-then-pairing-eq0-clause-queued c = λ _.
    ap (λ asks. let w : Waiting = record { version = version_of c.args.pairing.now.version; asks = asks } in w)
    (queued_before c.args.pairing.now.before c.args.pairing.now.hello c.args.pairing.now.beyond c.args.kind
    c.if-pairing-eq0.true c.if-kind-ne0-3.false)

pub returns-else-pairing-eq0-clause-queued : goal.returns-else-pairing-eq0-clause-queued
returns-else-pairing-eq0-clause-queued c = λ _.
    ap (λ asks. let w : Waiting = record { version = version_of c.args.pairing.now.version; asks = asks } in w)
    (queued_beyond c.args.pairing.now.before c.args.pairing.now.hello c.args.pairing.now.beyond c.args.kind
    c.if-pairing-eq0.false c.if-kind-ne0-3.false)
