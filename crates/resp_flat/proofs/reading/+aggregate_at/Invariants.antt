use Rattle.std.proofs.Common.{◌≡◌, ◌-◌, ◌+◌, take}
use Rattle.resp_value.specs.Rules.{rules_under}
use Rattle.resp_flat.specs.Plain.{HasAggregate}
use Rattle.resp_flat.proofs.ValuesNotThere.{HasTrees}
use Rattle.resp_flat.proofs.ValuesRead.{HasMembers}
use Rattle.resp_flat.proofs.reading.+aggregate_at.Given as goal

abbrev pub decreases-aggregate_at : goal.decreases-aggregate_at
decreases-aggregate_at l = 16 - l.level

abbrev pub invariant-loop : goal.invariant-loop
invariant-loop l = record {
  members : HasMembers (rules_under l.version l.limits) (l.level + 1) l.buffer (record { end = l.head.end; count = l.count + 1 }) l.inner l.fn.nodes l.nodes
      l.counter;
  left : HasAggregate (rules_under l.version l.limits) l.level l.buffer l.fn.filled.end →
      HasTrees (rules_under l.version l.limits) (l.level + 1) l.buffer l.inner.end (l.head.members - l.counter);
  kept : take l.count l.nodes ≡ take l.count l.fn.nodes;
}
