use Rattle.std.proofs.Common.{Ok, Err, subst, sym, ap, ◌++◌}
use Rattle.resp_value.specs.Canonical.{canonical_text}
use Rattle.resp_value.specs.declared.version.Version.TheVariants.{Three}
use Rattle.resp_encode.specs.Pushes.{push_of}
use Rattle.resp_server.specs.Hubs.{HubState, Seat, seat_at}
use Rattle.resp_server.specs.PushRefusals.{IsPushVerdict}
use Rattle.resp_server.proofs.PushVerdicts.{no_session}
use Rattle.resp_server.proofs.Seats.{seat_is, seated_is, same_state, same_seat, sound_with}
use Rattle.resp_server.proofs.hub.Hub.push.Goals as goal

pub returns-in_default-clause-verdict : goal.returns-in_default-clause-verdict
returns-in_default-clause-verdict g c =
    no_session (seat_is _ _ _ _ c.args.self.now c.self.view_is c.args.id c.in_default.ensures.value)

pub invariant_of-self-in-Err : goal.invariant_of-self-in-Err
invariant_of-self-in-Err g c = sound_with c.self.invariant c.args.id (c.get_mut.follows.holds _).0 c.in-Some.ensures.value
    c.queue_push.ensures.rest

pub returns-in-Err-clause-unchanged : goal.returns-in-Err-clause-unchanged
returns-in-Err-clause-unchanged g c =
    same_state _ _ _ _ c.self.view_is c.args.id _ (c.get_mut.follows.holds _).0 c.in-Some.ensures.value
    (same_seat c.queue_push.new.session c.in-Some.session.now c.queue_push.ensures.same_version
    c.in-Err.ensures.unchanged c.queue_push.ensures.rest.same_closing c.queue_push.ensures.rest.same_decoder)

pub returns-in-Err-clause-verdict : goal.returns-in-Err-clause-verdict
returns-in-Err-clause-verdict g c =
    let i = c.self.inside in
    subst (λ limits. IsPushVerdict limits (seat_at c.args.self.now c.args.id) (push_of c.args.items.now) (Err c.in-Err.error))
    (ap (λ (hub : HubState). hub.limits) c.self.view_is) (subst (λ seat. IsPushVerdict i.database.limits seat
    (push_of c.args.items.now) (Err c.in-Err.error)) (sym (seat_is i.database.limits i.sessions.entries i.database.store i.last
    c.args.self.now c.self.view_is c.args.id c.in-Some.ensures.value)) c.in-Err.ensures.verdict)

pub invariant_of-self-2 : goal.invariant_of-self-2
invariant_of-self-2 g c = sound_with c.self.invariant c.args.id (c.get_mut.follows.holds _).0 c.in-Some.ensures.value
    c.queue_push.ensures.rest

pub returns-clause-queued : goal.returns-clause-queued
returns-clause-queued g c =
    let push = canonical_text Three (push_of c.args.items.now) in
    seated_is _ _ _ _ c.self.view_is c.args.id _ (c.get_mut.follows.holds _).0 c.in-Some.ensures.value
    (λ (s : Seat). record s { out = s.out ++ push }) (same_seat c.queue_push.new.session c.in-Some.session.now
    c.queue_push.ensures.same_version c.in_default-queue_push.ensures.queued c.queue_push.ensures.rest.same_closing
    c.queue_push.ensures.rest.same_decoder)

pub returns-clause-verdict : goal.returns-clause-verdict
returns-clause-verdict g c =
    let i = c.self.inside in
    subst (λ limits. IsPushVerdict limits (seat_at c.args.self.now c.args.id) (push_of c.args.items.now) (Ok tt))
    (ap (λ (hub : HubState). hub.limits) c.self.view_is) (subst
    (λ seat. IsPushVerdict i.database.limits seat (push_of c.args.items.now) (Ok tt))
    (sym (seat_is _ _ _ _ c.args.self.now c.self.view_is c.args.id c.in-Some.ensures.value))
    c.in_default-queue_push.ensures.verdict)
