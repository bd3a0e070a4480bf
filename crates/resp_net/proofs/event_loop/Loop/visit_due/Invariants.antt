-- each turn visits one of the places that are due
use Rattle.std.proofs.Common.{length}
use Rattle.resp_schedule.specs.Plans.{due_of}
use Rattle.resp_net.proofs.event_loop.Loop.visit_due.Given as goal

abbrev pub decreases-loop-place : goal.decreases-loop-place
decreases-loop-place g l = length (due_of l.self.schedule)
