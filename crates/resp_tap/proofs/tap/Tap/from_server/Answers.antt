use Rattle.std.proofs.Common.{◌≡◌, ◌-◌, drop, length, subst}
use Rattle.resp_tap.specs.Watching.{SeesValue}
use Rattle.resp_tap.proofs.TimeLemmas.{times_dropped}
use Rattle.resp_tap.proofs.tap.Tap.from_server.Goals as goal

pub returns-clause-seen : goal.returns-clause-seen
returns-clause-seen c = λ read. λ front taken.
    let begun = c.begin.ensures.begun front taken in
    subst (λ s. SeesValue s c.read_value.new.self front c.args.piece.now c.read_value.result.used c.read_value.result.seen) begun.1
    (c.read_value.ensures.seen front begun.0)

pub returns-clause-times : goal.returns-clause-times
returns-clause-times c = λ now.
    let left = c.read_value.new.self.line.pending.items in
    times_dropped now c.args.self.now c.read_value.new.self
    (subst (λ p. left ≡ drop (length p.items - length left) p.items) c.begin.ensures.same_pending c.read_value.ensures.gone)
