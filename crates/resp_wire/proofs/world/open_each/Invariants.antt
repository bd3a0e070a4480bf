use Rattle.std.proofs.Common.{◌≤◌}
use Rattle.resp_wire.specs.Happening.{AreOpened}
use Rattle.resp_wire.proofs.world.open_each.Given as goal

abbrev pub invariant-loop : goal.invariant-loop
invariant-loop g l = record {
  opened : AreOpened l.fn.limits l.fn.hub l.hub l.ends.items l.counter;
  within : l.counter ≤ l.fn.count;
}
