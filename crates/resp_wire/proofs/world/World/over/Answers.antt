use Rattle.std.proofs.Common.{◌≡◌, ◌≤◌, [], length, rules, ap, subst, sym}
use Rattle.resp_session.specs.Worlds.{new_world}
use Rattle.resp_server.specs.Hubs.{HubState}
use Rattle.resp_wire.specs.Worlds.{ShowsEach}
use Rattle.resp_wire.proofs.world.World.over.Goals as goal
use Rattle.resp_wire.proofs.worlds.Opened.{opened_shows}

pub returns-clause-shows : goal.returns-clause-shows
returns-clause-shows g c honest =
    let few : c.len-2.result ≤ 65536 = search rules in
    let count : c.len-2.result ≡ length c.args.links.items = search rules in
    let opened = opened_shows c.args.limits _ c.open_each.new.hub c.in_ok-ends.ends.items c.len-2.result c.are_in_range.ensures few
    (ap (λ (h : HubState). h.limits) c.new-hub.ensures) (ap (λ (h : HubState). h.store) c.new-hub.ensures) c.in_ok-ends.ensures.opened in
    record {
      each = subst (λ order. ShowsEach c.args.limits c.open_each.new.hub c.in_ok-ends.ends.items order (new_world (length c.args.links.items)))
          (sym c.new.ensures.items)
          (subst (λ n. ShowsEach c.args.limits c.open_each.new.hub c.in_ok-ends.ends.items [] (new_world n)) count opened);
      honest = honest;
    }
