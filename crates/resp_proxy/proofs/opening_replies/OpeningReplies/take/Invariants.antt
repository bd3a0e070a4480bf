use Rattle.std.proofs.Common.{◌-◌, length}
use Rattle.resp_proxy.specs.OpeningReplies.{TakesSome}
use Rattle.resp_proxy.proofs.opening_replies.OpeningReplies.take.Given as goal

abbrev pub invariant-loop-used : goal.invariant-loop-used
invariant-loop-used l = TakesSome l.initial.self l.piece l.used l.self

abbrev pub decreases-loop-used : goal.decreases-loop-used
decreases-loop-used l = length l.piece - l.used
