use Rattle.std.proofs.Common.{◌≡◌, ◌<◌, ap, arith, length, refl, sym, take}
use Rattle.resp_proxy.specs.declared.opening.OpeningProgress.TheVariants as progress
use Rattle.resp_proxy.specs.Opened.{failure_in, replies_in}
use Rattle.resp_proxy.proofs.Openeds.{closed-end, reads-accepted, reads-end, reads-nothing, reads-refused}
use Rattle.resp_proxy.proofs.Readings.{read-bytes, read-nothing}
use Rattle.resp_proxy.proofs.opening.Opening.receive.Goals as goal

pub returns-in-Err-clause-reads : goal.returns-in-Err-clause-reads
returns-in-Err-clause-reads g c =
    let left = g.R.Source.remaining c.args.reader.now in
    let left' = g.R.Source.remaining c.read.new.self in
    reads-nothing left left' c.args.self.now c.args.self.now progress.Waits
    (read-nothing left left' c.read.new.into c.in-Err.field-0 c.in-Err.ensures.bytes) refl refl

pub returns-then-count-eq0-clause-reads : goal.returns-then-count-eq0-clause-reads
returns-then-count-eq0-clause-reads g c =
    let left = g.R.Source.remaining c.args.reader.now in
    let left' = g.R.Source.remaining c.read.new.self in
    let none : c.in-Ok.count ≡ 0 = grind arith in
    let some : 0 < length c.read.new.into = grind arith in
    reads-end left left' c.args.self.now (take c.in-Ok.count c.read.new.into)
    (read-bytes left left' c.read.new.into c.in-Ok.count c.in-Ok.ensures.bytes)
    (closed-end left left' c.read.new.into c.in-Ok.count c.in-Ok.ensures.bytes none some)

pub returns-in-Err-take-clause-reads : goal.returns-in-Err-take-clause-reads
returns-in-Err-take-clause-reads g c =
    let left = g.R.Source.remaining c.args.reader.now in
    let left' = g.R.Source.remaining c.read.new.self in
    reads-refused left left' c.args.self.now c.self.inside.replies (take c.in-Ok.count c.read.new.into) c.in-Err-take.error
    (read-bytes left left' c.read.new.into c.in-Ok.count c.in-Ok.ensures.bytes) (ap replies_in (sym c.self.view_is)) c.in-Err-take.ensures.refused

pub returns-then-are_complete-clause-reads : goal.returns-then-are_complete-clause-reads
returns-then-are_complete-clause-reads g c =
    let left = g.R.Source.remaining c.args.reader.now in
    let left' = g.R.Source.remaining c.read.new.self in
    reads-accepted left left' c.args.self.now c.self.inside.replies (take c.in-Ok.count c.read.new.into) progress.Accepted
    (read-bytes left left' c.read.new.into c.in-Ok.count c.in-Ok.ensures.bytes) (ap replies_in (sym c.self.view_is)) c.in_default.ensures.taken
    (ap failure_in c.self.view_is)

pub returns-clause-reads : goal.returns-clause-reads
returns-clause-reads g c =
    let left = g.R.Source.remaining c.args.reader.now in
    let left' = g.R.Source.remaining c.read.new.self in
    reads-accepted left left' c.args.self.now c.self.inside.replies (take c.in-Ok.count c.read.new.into) progress.Reads
    (read-bytes left left' c.read.new.into c.in-Ok.count c.in-Ok.ensures.bytes) (ap replies_in (sym c.self.view_is)) c.in_default.ensures.taken
    (ap failure_in c.self.view_is)
