-- no connection has appeared, and each turn adds a place
use Rattle.std.proofs.Common.{◌+◌, ◌-◌, vec_len}
use Rattle.resp_net.specs.Placing.{NoneAppears}
use Rattle.resp_net.proofs.event_loop.make_room.Given as goal

abbrev pub invariant-loop-connections : goal.invariant-loop-connections
invariant-loop-connections g l = NoneAppears l.fn.connections.items l.connections.items

abbrev pub decreases-loop-connections : goal.decreases-loop-connections
decreases-loop-connections g l = (l.place + 1) - vec_len l.connections
