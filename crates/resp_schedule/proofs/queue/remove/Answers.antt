use Rattle.std.proofs.Common.{ℕ, ◌<◌, ◌≤◌, List, length, arith}
use Rattle.resp_schedule.proofs.Removal.{rest_same, rest_other, count_same, count_other, count_late, passed_all}
use Rattle.resp_schedule.proofs.queue.remove.Goals as goal
use Rattle.resp_schedule.proofs.queue.remove.Goals.{then-other-place+then-index-due, then-other-place+else-index-due, else-other-place}

pub loop-index-preserved : goal.loop-index-preserved
loop-index-preserved c =
    let i = c.loop-index.invariant in
    let queue : List ℕ = c.args.queue.now.items in
    let within : c.loop-index.index < length queue = omega arith in
    let fits : c.args.due ≤ length queue = omega arith in
    elim c.if-other-place.branch [
      | then-other-place+then-index-due w ↦
          let rest = rest_other c.args.place queue _ c.loop-index.index _ _ within i.rest c.in-Some.ensures.items w.if-other-place.true in
          let count = count_other c.args.place queue _ c.args.due c.loop-index.index _ _ within fits w.if-index-due.true i.rest c.in-Some.ensures.items w.if-other-place.true in
          record { rest = cc; left = omega (arith, count); capacity = cc }
      | then-other-place+else-index-due w ↦
          let rest = rest_other c.args.place queue _ c.loop-index.index _ _ within i.rest c.in-Some.ensures.items w.if-other-place.true in
          let count = count_late c.args.place queue c.args.due c.loop-index.index fits w.if-index-due.false in
          record { rest = cc; left = omega (arith, count); capacity = cc }
      | else-other-place w ↦
          let rest = rest_same c.args.place queue _ c.loop-index.index _ _ within i.rest c.in-Some.ensures.items w.if-other-place.false in
          let count = count_same c.args.place queue _ c.args.due c.loop-index.index _ _ within fits i.rest c.in-Some.ensures.items w.if-other-place.false in
          record { rest = cc; left = omega (arith, count); capacity = cc }
    ]

pub returns-clause-due : goal.returns-clause-due
returns-clause-due c =
    let i = c.loop-index.invariant in
    (passed_all c.args.place c.args.queue.now.items c.loop-index.queue.items c.args.due c.loop-index.index _ (omega arith) i.rest i.left).0

pub returns-clause-within : goal.returns-clause-within
returns-clause-within c =
    let i = c.loop-index.invariant in
    let both = passed_all c.args.place c.args.queue.now.items c.loop-index.queue.items c.args.due c.loop-index.index _ (omega arith) i.rest i.left in
    omega (arith, both.1)
