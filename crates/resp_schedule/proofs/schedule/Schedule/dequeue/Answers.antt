use Rattle.std.proofs.Common.{ap, ◌∙◌, arith}
use Rattle.resp_schedule.specs.Plans.{state_of}
use Rattle.resp_schedule.proofs.Steps.{dequeues}
use Rattle.resp_schedule.proofs.schedule.Schedule.dequeue.Goals as goal

pub invariant_of-self : goal.invariant_of-self
invariant_of-self c =
    dequeues _ _ _ _ _ _ _ _ _ _ _ _ _ (ap (λ p. state_of p c.args.place) c.self.view_is ∙ c.requires)
    c.remove-self-inside.ensures.queue (omega (arith, c.remove-self-inside.ensures.within)) c.remove-self-inside.ensures.capacity c.self.invariant
