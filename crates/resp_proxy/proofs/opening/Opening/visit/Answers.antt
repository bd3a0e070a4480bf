use Rattle.std.proofs.Common.{arith, refl}
use Rattle.resp_proxy.specs.declared.opening.OpeningProgress.TheVariants as progress
use Rattle.resp_proxy.proofs.Openeds.{reads-after, reads-failed, reads-nothing}
use Rattle.resp_proxy.proofs.Readings.{not-read}
use Rattle.resp_proxy.proofs.opening.Opening.visit.Goals as goal

pub returns-in-Some-clause-reads : goal.returns-in-Some-clause-reads
returns-in-Some-clause-reads g c =
    reads-failed (g.R.Source.remaining c.args.reader.now) c.args.self.now c.in-Some.error (grind arith)

pub returns-then-is_accepted-clause-reads : goal.returns-then-is_accepted-clause-reads
returns-then-is_accepted-clause-reads g c =
    let left = g.R.Source.remaining c.args.reader.now in
    reads-nothing left left c.args.self.now c.args.self.now progress.Accepted (not-read left) refl refl

pub returns-then-not-is_empty-clause-reads : goal.returns-then-not-is_empty-clause-reads
returns-then-not-is_empty-clause-reads g c =
    let left = g.R.Source.remaining c.args.reader.now in
    reads-nothing left left c.args.self.now c.send.new.self progress.Sends (not-read left) c.send.ensures.same_replies c.send.ensures.same_failure

pub returns-clause-reads : goal.returns-clause-reads
returns-clause-reads g c =
    reads-after (g.R.Source.remaining c.args.reader.now) (g.R.Source.remaining c.receive.new.reader) c.args.self.now c.send.new.self c.receive.new.self
    c.receive.result c.send.ensures.same_replies c.send.ensures.same_failure c.receive.ensures.reads
