use Rattle.std.proofs.Common.{◌≡◌, ◌+◌, length}
use Rattle.resp_server.specs.Outcomes.{keys_in}
use Rattle.resp_server.proofs.database.Database.count.Given as goal

abbrev pub invariant-loop-key : goal.invariant-loop-key
invariant-loop-key g l = length (keys_in l.self.store l.fn.keys) ≡ l.count + length (keys_in l.self.store l.key-iterator)
