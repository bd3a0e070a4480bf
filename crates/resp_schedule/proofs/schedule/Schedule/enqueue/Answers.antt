use Rattle.std.proofs.Common.{◌≡◌, get_or, sym, ap, ◌∙◌, arith}
use Rattle.resp_schedule.specs.Plans.{state_of}
use Rattle.resp_schedule.specs.declared.schedule.PlaceState.TheVariants.{Closed, Idle}
use Rattle.resp_schedule.proofs.Lists.{room_to_queue}
use Rattle.resp_schedule.proofs.schedule.Schedule.enqueue.Goals as goal

pub push_back_reserved-requires : goal.push_back_reserved-requires
push_back_reserved-requires c =
    let was : get_or c.self.inside.states.items c.args.place Closed ≡ Idle =
    ap (λ p. state_of p c.args.place) c.self.view_is ∙ sym c.in-Idle.ensures.state in
    omega (arith, room_to_queue c.self.inside.states.items c.args.place was, c.self.invariant.queue_length, c.self.invariant.queue_room)
