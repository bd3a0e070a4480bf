use Rattle.std.proofs.Common.{arith, refl}
use Rattle.resp_schedule.proofs.Shown.{visits_first}
use Rattle.resp_schedule.proofs.Steps.{pops_first, queue_within, first_is}
use Rattle.resp_schedule.proofs.schedule.Schedule.next_due.Goals as goal

pub index_mut-requires : goal.index_mut-requires
index_mut-requires c =
    let within = queue_within _ _ _ _ _ _ _ _ _ _ _ c.in_ok-place.ensures.items c.self.invariant in
    omega (arith, within)

pub invariant_of-self-2 : goal.invariant_of-self-2
invariant_of-self-2 c =
    pops_first _ _ _ _ _ _ _ _ _ _ _ _ c.in_ok-place.ensures.items c.in_ok-place.ensures.capacity (omega arith) c.self.invariant

pub returns-clause-next : goal.returns-clause-next
returns-clause-next c =
    let within = queue_within _ _ _ _ _ _ _ _ _ _ _ c.in_ok-place.ensures.items c.self.invariant in
    let was = first_is _ _ _ _ _ _ _ _ _ _ _ c.in_ok-place.ensures.items c.self.invariant in
    visits_first _ _ _ _ c.self.view_is c.in_ok-place.ensures.items (omega arith) refl refl was within refl refl refl
