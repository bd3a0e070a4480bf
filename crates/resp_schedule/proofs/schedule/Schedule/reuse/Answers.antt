use Rattle.std.proofs.Common.{◌+◌, sym, ap, ◌∙◌, arith, refl}
use Rattle.resp_schedule.specs.Places.{times}
use Rattle.resp_schedule.specs.Plans.{Plan, open_count}
use Rattle.resp_schedule.proofs.Shown.{changes_at, rest_is}
use Rattle.resp_schedule.proofs.Steps.{count-open, drop_first, free_is, free_within, not_gone, reuses_first}
use Rattle.resp_schedule.proofs.schedule.Schedule.reuse.Goals as goal

pub index_mut-requires : goal.index_mut-requires
index_mut-requires c =
    let within = free_within _ _ _ _ _ _ _ _ _ _ _ c.in_ok-place.ensures.items c.self.invariant in
    omega (arith, within)

pub invariant_of-self-2 : goal.invariant_of-self-2
invariant_of-self-2 c =
    reuses_first _ _ _ _ _ _ _ _ _ _ _ _ c.in_ok-place.ensures.items c.in_ok-place.ensures.capacity (omega arith)
    (omega (arith, c.requires, ap open_count c.self.view_is, ap (λ (p : Plan). p.most) c.self.view_is, c.self.invariant.open_count)) c.self.invariant

pub returns-clause-opened : goal.returns-clause-opened
returns-clause-opened c =
    let within = free_within _ _ _ _ _ _ _ _ _ _ _ c.in_ok-place.ensures.items c.self.invariant in
    let was = free_is _ _ _ _ _ _ _ _ _ _ _ c.in_ok-place.ensures.items c.self.invariant in
    changes_at _ _ _ _ _ _ c.self.view_is was within refl

pub returns-clause-not_reused : goal.returns-clause-not_reused
returns-clause-not_reused c =
    ap (λ (p : Plan). times c.in_ok-place.place p.gone) (sym c.self.view_is) ∙
    not_gone _ _ _ _ _ _ _ _ _ _ _ c.in_ok-place.ensures.items (omega arith) c.self.invariant

pub returns-clause-rest : goal.returns-clause-rest
returns-clause-rest c =
    rest_is _ _ _ _ c.self.view_is (sym (drop_first c.self.inside.reusable _ c.in_ok-place.place _ c.in_ok-place.ensures.items (omega arith)))

pub returns-clause-counted : goal.returns-clause-counted
returns-clause-counted c =
    let within = free_within _ _ _ _ _ _ _ _ _ _ _ c.in_ok-place.ensures.items c.self.invariant in
    count-open c.self.inside.states.items c.in_ok-place.place within (free_is _ _ _ _ _ _ _ _ _ _ _ c.in_ok-place.ensures.items c.self.invariant) ∙
    ap (λ n. n + 1) (ap open_count c.self.view_is)
