use Rattle.std.proofs.Common.{◌≡◌, ◌+◌, length}
use Rattle.resp_server.proofs.database.Database.size.Given as goal

abbrev pub invariant-loop : goal.invariant-loop
invariant-loop g l = length l.self.store ≡ l.count + length l.iterator'
