use Rattle.std.proofs.Common.{◌-◌, length}
use Rattle.resp_proxy.specs.Probing.{AreInStep}
use Rattle.resp_proxy.specs.Replying.{HasReplied}
use Rattle.resp_proxy.proofs.replies.take_replies.Given as goal

abbrev pub invariant-loop-used : goal.invariant-loop-used
invariant-loop-used l = HasReplied l.initial.line.place l.initial.frames l.initial.begun l.initial.board l.initial.queued.items l.piece l.used l.frames l.begun l.board l.queued.items ×
    AreInStep l.prober.who l.prober.expected.items l.board

abbrev pub decreases-loop-used : goal.decreases-loop-used
decreases-loop-used l = length l.piece - l.used
