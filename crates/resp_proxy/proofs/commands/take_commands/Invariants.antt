use Rattle.std.proofs.Common.{◌-◌, length}
use Rattle.resp_proxy.specs.Taking.{HasTaken}
use Rattle.resp_proxy.proofs.commands.take_commands.Given as goal

abbrev pub invariant-loop-used : goal.invariant-loop-used
invariant-loop-used l = HasTaken l.initial.intake l.initial.unfinished l.initial.board l.route l.piece l.used l.intake l.unfinished l.board

abbrev pub decreases-loop-used : goal.decreases-loop-used
decreases-loop-used l = length l.piece - l.used
