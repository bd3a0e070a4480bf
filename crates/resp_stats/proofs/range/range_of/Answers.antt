use Rattle.std.proofs.Common.{arith, ◌+◌, ◌-◌, ◌*◌, ◌/◌, ◌^◌, ◌<◌, ◌≤◌}
use Rattle.resp_stats.proofs.RangeLemmas.{log_from, log_to, parts, start_at, start_next}
use Rattle.resp_stats.proofs.range.range_of.Goals as goal

pub overflow_sub-doublings : goal.overflow_sub-doublings
overflow_sub-doublings c =
    let enough = log_from c.min-micros.result c.ilog2-doublings.result (omega arith) c.ilog2-doublings.ensures.next_power_gt in omega (arith, enough)

pub returns-clause-within : goal.returns-clause-within
returns-clause-within c =
    let log = c.ilog2-doublings in
    let m = c.min-micros.result in
    let enough : 5 ≤ log.result = log_from m log.result (omega arith) log.ensures.next_power_gt in
    let above : log.result < 32 = log_to m log.result (omega arith) log.ensures.power_le in
    let halves = parts m log.result (log.result - 4) (omega arith) log.ensures.power_le log.ensures.next_power_gt in
    let to = halves.to in
    omega (arith, enough, above, to)

pub returns-clause-from_start : goal.returns-clause-from_start
returns-clause-from_start c =
    let log = c.ilog2-doublings in
    let m = c.min-micros.result in
    let enough : 5 ≤ log.result = log_from m log.result (omega arith) log.ensures.next_power_gt in
    let halves = parts m log.result (log.result - 4) (omega arith) log.ensures.power_le log.ensures.next_power_gt in
    let start = start_at (log.result - 4) (m / 2 ^ (log.result - 4)) (16 * (log.result - 4) + m / 2 ^ (log.result - 4)) halves.from halves.to (omega arith) in
    let low = halves.low in
    rw start (omega (arith, low))

pub returns-clause-before_next : goal.returns-clause-before_next
returns-clause-before_next c =
    let log = c.ilog2-doublings in
    let m = c.min-micros.result in
    let enough : 5 ≤ log.result = log_from m log.result (omega arith) log.ensures.next_power_gt in
    let halves = parts m log.result (log.result - 4) (omega arith) log.ensures.power_le log.ensures.next_power_gt in
    let next = start_next (log.result - 4) (m / 2 ^ (log.result - 4)) (16 * (log.result - 4) + m / 2 ^ (log.result - 4)) halves.from halves.to (omega arith) in
    let high = halves.high in
    rw next (omega (arith, high))
