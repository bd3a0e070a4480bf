use Rattle.std.proofs.Common.{length}
use Rattle.resp_server_net.proofs.torture.Torture.take.Given as goal

abbrev pub decreases-loop-first : goal.decreases-loop-first
decreases-loop-first l = length l.rest
