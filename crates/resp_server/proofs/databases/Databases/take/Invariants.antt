use Rattle.std.proofs.Common.{◌-◌, length}
use Rattle.resp_server.proofs.Takings.{HasTaken}
use Rattle.resp_server.proofs.databases.Databases.take.Given as goal

abbrev pub invariant-loop-used : goal.invariant-loop-used
invariant-loop-used g l = HasTaken l.held l.fn.self l.self l.fn.client l.client l.piece l.used

abbrev pub decreases-loop-used : goal.decreases-loop-used
decreases-loop-used g l = length l.piece - l.used
