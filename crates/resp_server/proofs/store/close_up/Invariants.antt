use Rattle.std.proofs.Common.{◌≡◌, length}
use Rattle.resp_server.specs.Entries.{entries_in}
use Rattle.resp_server.proofs.ClosingUp.{IsClosingUp}
use Rattle.resp_server.proofs.store.close_up.Given as goal

abbrev pub invariant-loop-place : goal.invariant-loop-place
invariant-loop-place g l = record {
  closing : IsClosingUp l.rows.entries l.places.items l.filled l.place (entries_in l.fn.rows.entries l.fn.places.items);
  same_length : length l.places.items ≡ length l.fn.places.items;
}
