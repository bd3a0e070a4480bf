use Rattle.resp_server.proofs.Lists.{AreEmpty}
use Rattle.resp_server.proofs.databases.Databases.new.Given as goal

-- so many databases without a key were made
abbrev pub invariant-loop : goal.invariant-loop
invariant-loop g l = AreEmpty l.fn.limits l.counter l.list.items
