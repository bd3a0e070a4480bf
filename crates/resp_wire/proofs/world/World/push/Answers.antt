use Rattle.std.proofs.Common.{◌≡◌, IfErr, IfSome, OnErr, Ok, Err, false, map, refl, subst, sym}
use Rattle.resp_value.specs.Canonical.{IsValue}
use Rattle.resp_value.specs.Values.{datum_of, list_of}
use Rattle.resp_session.specs.Connections.{push_message}
use Rattle.resp_session.specs.Worlds.{Push}
use Rattle.resp_server.specs.Hubs.{seat_at, seated}
use Rattle.resp_server.specs.PushRefusals.{IsPushVerdict}
use Rattle.resp_wire.specs.Happening.{MayLackMemory}
use Rattle.resp_wire.specs.Links.{is_of_link}
use Rattle.resp_wire.specs.declared.event.Outcome.TheVariants.{Done}
use Rattle.resp_wire.proofs.LinkStops.{push_of_no_link}
use Rattle.resp_wire.proofs.worlds.Lacking.{if_err_of, push_lacks}
use Rattle.resp_wire.proofs.worlds.Moves.{pushes, refuses_push, stops_push}
use Rattle.resp_wire.proofs.worlds.Performed.{from_inside, over_none}
use Rattle.resp_wire.proofs.worlds.Places.{world_of}
use Rattle.resp_wire.proofs.worlds.Pushed.{pushed_seat}
use Rattle.resp_wire.proofs.world.World.push.Goals as goal

pub returns : goal.returns
returns g c = from_inside _ _ _ c.args.number _ _ _ _ _ c.self.view_is c.requires (λ client.
    let s = c.self.inside in
    let n = c.args.number in
    let hub' = c.push.new.self in
    let items = list_of c.args.items.now in
    let now = subst (λ l. IfSome (seat_at s.hub n) (λ t. hub' ≡ seated s.hub n (pushed_seat (push_message (map datum_of l)).value t))) c.list.ensures
    c.in_default.ensures.queued in
    let verdict = subst (λ l. IsPushVerdict s.hub.limits (seat_at s.hub n) (push_message (map datum_of l)).value (Ok tt)) c.list.ensures
    c.in_default.ensures.verdict in
    let value = subst (λ l. IsValue (push_message (map datum_of l)).value) c.list.ensures c.in_default.ensures.is_value in
    over_none _ _ _ _ _ (Push n (map datum_of items)) (Ok Done) (λ outcome. refl) refl refl refl tt
    (pushes _ c.what_is_shown_is_read.ensures.nothing_else c.what_is_shown_is_read.ensures.goes_on c.what_has_come_was_sent.ensures.was_sent
    c.a_change_is_of_one_connection.ensures _ hub' n items client now verdict value) tt tt)

pub returns-in-Err : goal.returns-in-Err
returns-in-Err g c = from_inside _ _ _ c.args.number _ _ _ _ _ c.self.view_is c.requires (λ client.
    let s = c.self.inside in
    let n = c.args.number in
    let items = list_of c.args.items.now in
    let old = world_of s.hub s.ends.items s.links.items s.order.items s.stopped in
    let result = c.outcome_of_push.result in
    let is = c.outcome_of_push.ensures in
    let verdict = subst (λ l. IsPushVerdict s.hub.limits (seat_at s.hub n) (push_message (map datum_of l)).value (Err c.in-Err.error)) c.list.ensures
    c.in-Err.ensures.verdict in
    over_none _ _ _ old _ (Push n (map datum_of items)) result (λ outcome. refl) refl refl refl
    (subst (λ r. IfErr r (λ cause. is_of_link cause ≡ false)) (sym is) (push_of_no_link c.in-Err.error))
    (refuses_push _ old _ n items c.in-Err.error result is verdict c.in-Err.ensures.unchanged client)
    (stops_push _ _ old old n items c.in-Err.error result is verdict client)
    (if_err_of result _ _ (subst (λ r. OnErr r (MayLackMemory g.L.Link.is_honest old (Push n (map datum_of items)))) (sym is)
    (push_lacks _ old n (map datum_of items) c.in-Err.error verdict client))))
