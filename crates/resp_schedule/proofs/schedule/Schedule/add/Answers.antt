use Rattle.std.proofs.Common.{[], ◌∷◌, ◌++◌, sym, ap, ◌∙◌, arith}
use Rattle.resp_schedule.specs.Places.{times}
use Rattle.resp_schedule.specs.Plans.{Plan, open_count}
use Rattle.resp_schedule.specs.declared.schedule.PlaceState.TheVariants.{Idle}
use Rattle.resp_schedule.proofs.Steps.{adds_to, new_is_not_gone}
use Rattle.resp_schedule.proofs.schedule.Schedule.add.Goals as goal

pub invariant_of-self-2 : goal.invariant_of-self-2
invariant_of-self-2 c =
    adds_to c.self.inside.states.items _ c.self.inside.queue.items _ _ c.self.inside.free.items _ _ _ _ _ _ _ _
    (c.push_reserved.ensures.items ∙ ap (λ xs. xs ++ Idle ∷ []) c.in_ok-reserve.ensures.items)
    c.in_ok-reserve-2.ensures.items c.in_ok-reserve-3.ensures.items
    (omega (arith, c.requires, ap open_count c.self.view_is, ap (λ (p : Plan). p.most) c.self.view_is, c.self.invariant.open_count))
    (omega (arith, c.in_ok-reserve-2.ensures.ok)) (omega (arith, c.in_ok-reserve-3.ensures.ok)) c.self.invariant

pub returns-clause-not_reused : goal.returns-clause-not_reused
returns-clause-not_reused c =
    ap (λ (p : Plan). times c.len-place.result p.gone) (sym c.self.view_is) ∙
    new_is_not_gone _ _ _ _ _ _ _ _ _ _ (omega arith) c.self.invariant
