use Rattle.std.proofs.Common.{◌≡◌}
use Rattle.resp_server.proofs.Lists.{emptied}
use Rattle.resp_server.proofs.databases.Databases.flush_all.Given as goal

-- the first databases are empty
abbrev pub invariant-loop-index : goal.invariant-loop-index
invariant-loop-index g l = l.self ≡ record l.fn.self { stores = emptied l.index l.fn.self.stores }
