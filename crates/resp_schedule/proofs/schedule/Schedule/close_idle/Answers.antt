use Rattle.std.proofs.Common.{ap, ◌∙◌, arith}
use Rattle.resp_schedule.specs.Plans.{state_of}
use Rattle.resp_schedule.proofs.Steps.{closes, room_to_close}
use Rattle.resp_schedule.proofs.schedule.Schedule.close_idle.Goals as goal

pub push_back_reserved-requires : goal.push_back_reserved-requires
push_back_reserved-requires c =
    let was = ap (λ p. state_of p c.args.place) c.self.view_is ∙ c.requires in
    omega (arith, room_to_close _ _ _ _ _ _ _ _ _ _ was c.self.invariant)

pub invariant_of-self : goal.invariant_of-self
invariant_of-self c =
    closes _ _ _ _ _ _ _ _ _ _ _ _ (ap (λ p. state_of p c.args.place) c.self.view_is ∙ c.requires)
    c.push_back_reserved.ensures.items c.push_back_reserved.ensures.capacity c.self.invariant
