use Rattle.std.proofs.Common.{◌-◌, refl}
use Rattle.std.proofs.lemmas.List.{length-set}
use Rattle.resp_session.specs.Worlds.{ToServer}
use Rattle.resp_wire.proofs.worlds.Lacking.{bytes_lack}
use Rattle.resp_wire.proofs.worlds.Moves.{IsLinkOf, moves_to_server, stops_to_server}
use Rattle.resp_wire.proofs.worlds.Performed.{from_inside, client_carries, over_link}
use Rattle.resp_wire.proofs.worlds.Places.{world_of}
use Rattle.resp_wire.proofs.world.World.to_server.Goals as goal

pub returns : goal.returns
returns g c = from_inside _ _ _ c.args.number _ _ _ _ _ c.self.view_is c.requires (λ client.
    let s = c.self.inside in
    let n = c.args.number in
    let link = c.index_mut.result.now in
    let old = world_of s.hub s.ends.items s.links.items s.order.items s.stopped in
    let of : IsLinkOf old n link = record { as_many = c.self.invariant; client = client; is = c.index_mut.ensures.value } in
    let brought = c.in_default.ensures in
    over_link _ _ _ old _ _ _ (ToServer n c.args.count) link _ _ of brought.link.failures (length-set s.ends.items (n - 1) _)
    (moves_to_server _ c.what_arrives_is_answered.ensures c.what_is_shown_is_read.ensures.nothing_else c.what_is_shown_is_read.ensures.goes_on
    c.what_has_come_was_sent.ensures.was_sent old _ _ n c.args.count c.index_mut-2.result.now c.carry_to_server-carried.new.client link _ of
    c.index_mut-2.ensures.value brought.brought brought.sent brought.same_reading brought.link.honest) tt tt
    (client_carries _ old n c.args.count c.index_mut-2.result.now link _ of c.index_mut-2.ensures.value brought.traffic))

pub returns-in-Err : goal.returns-in-Err
returns-in-Err g c = from_inside _ _ _ c.args.number _ _ _ _ _ c.self.view_is c.requires (λ client.
    let s = c.self.inside in
    let n = c.args.number in
    let link = c.index_mut.result.now in
    let old = world_of s.hub s.ends.items s.links.items s.order.items s.stopped in
    let of : IsLinkOf old n link = record { as_many = c.self.invariant; client = client; is = c.index_mut.ensures.value } in
    over_link _ _ _ old _ _ _ (ToServer n c.args.count) link _ _ of c.in-Err.ensures.link.failures (length-set s.ends.items (n - 1) _) tt
    (stops_to_server _ _ c.what_arrives_is_answered.ensures old n c.index_mut-2.result.now link _ _ of c.index_mut-2.ensures.value c.in-Err.ensures.refusal)
    (λ memory. bytes_lack _ old n (ToServer n c.args.count) (λ i is. absurd (cc)) (λ w. refl) (λ limits connection cause r. r) client) tt)
