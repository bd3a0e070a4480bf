use Rattle.std.proofs.Common.{◌≡◌, ◌≤◌, ◌++◌, replicate}
use Rattle.resp_wire.proofs.carrying.add.Given as goal

abbrev pub invariant-loop : goal.invariant-loop
invariant-loop l = record {
  added : l.order.items ≡ l.fn.order.items ++ replicate l.counter l.fn.number;
  within : l.counter ≤ l.fn.commands;
}
