use Rattle.std.proofs.Common.{◌≡◌, length}
use Rattle.resp_server.specs.Entries.{entries_in}
use Rattle.resp_server.proofs.entries.EntriesIterator.next.Given as goal

abbrev pub invariant-loop-first : goal.invariant-loop-first
invariant-loop-first l = record {
  same : entries_in l.self-inside.rows l.self-inside.places.now ≡ l.fn.self;
}

abbrev pub decreases-loop-first : goal.decreases-loop-first
decreases-loop-first l = length l.self-inside.places.now
