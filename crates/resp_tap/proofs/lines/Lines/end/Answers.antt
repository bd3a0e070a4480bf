use Rattle.std.proofs.Common.{[], subst}
use Rattle.resp_tap.specs.Lined.{EndsSo, IsTextOf}
use Rattle.resp_tap.specs.Taps.{tap_state}
use Rattle.resp_tap.specs.Watching.{SeesRequest}
use Rattle.resp_tap.proofs.LineReading.{line_told}
use Rattle.resp_tap.proofs.lines.Lines.end.Goals as goal

pub returns-in-Ok-Some-clause-told : goal.returns-in-Ok-Some-clause-told
returns-in-Ok-Some-clause-told c = λ taken reads.
    let old = c.args.tap.now in
    let step = c.from_client.result in
    let its = subst (IsTextOf old.limits c.as_slice.result.now) c.in-Ok-Some.field-0-is c.in-Ok-Some.ensures.text in
    subst (λ line. EndsSo c.args.now line old c.from_client.new.self step.seen) c.as_slice.ensures.value
    (line_told c.no_spelling_begins_another.ensures c.args.now old c.from_client.new.self c.as_slice.result.now c.in-Ok-Some.text.items its.0 step.used
    step.seen its.1 its.2 its.3 its.4 c.from_client.ensures.times
    (subst (λ text. SeesRequest (tap_state old) c.from_client.new.self [] text step.used step.seen) c.as_slice-in-Ok-Some.ensures
    (c.from_client.ensures.seen reads [] taken)))
