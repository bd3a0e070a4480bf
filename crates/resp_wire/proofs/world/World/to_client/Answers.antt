use Rattle.std.proofs.Common.{◌≡◌, ◌∙◌, ◌-◌, refl, set, subst, sym, ap}
use Rattle.std.proofs.lemmas.List.{length-set}
use Rattle.resp_io.specs.Devices.{failures_after}
use Rattle.resp_session.specs.Worlds.{ToClient}
use Rattle.resp_wire.specs.Ends.{KeepsHeard}
use Rattle.resp_wire.specs.Happening.{Happens}
use Rattle.resp_wire.specs.Worlds.{LinksAfter}
use Rattle.resp_wire.specs.declared.event.Outcome.TheVariants.{Done}
use Rattle.resp_wire.proofs.LinkStops.{of_no_link, stopped_by_none}
use Rattle.resp_wire.proofs.worlds.Carried.{with_client}
use Rattle.resp_wire.proofs.worlds.Events.{both_ok}
use Rattle.resp_wire.proofs.worlds.Lacking.{all_errs, bytes_lack, if_err_of}
use Rattle.resp_wire.proofs.worlds.Moves.{IsLinkOf, moves_to_client, stops_for_memory, stops_to_client}
use Rattle.resp_wire.proofs.worlds.Performed.{from_inside, over_link, session_carries}
use Rattle.resp_wire.proofs.worlds.Places.{world_of}
use Rattle.resp_wire.proofs.world.World.to_client.Goals as goal

pub returns : goal.returns
returns g c = from_inside _ _ _ c.args.number _ _ _ _ _ c.self.view_is c.requires (λ client.
    let s = c.self.inside in
    let n = c.args.number in
    let e = c.index_mut-2.result.now in
    let link = c.index_mut.result.now in
    let carried = c.carry_to_client-carried.new in
    let heard = c.in_default.ensures in
    let result = c.keep.result in
    let event = ToClient n c.args.count in
    let ends' = set (set s.ends.items (n - 1) (with_client e carried.client)) (n - 1) c.keep.new.self in
    let old = world_of s.hub s.ends.items s.links.items s.order.items s.stopped in
    let new = world_of carried.hub ends' (set s.links.items (n - 1) carried.link) s.order.items s.stopped in
    let of : IsLinkOf old n link = record { as_many = c.self.invariant; client = client; is = c.index_mut.ensures.value } in
    over_link _ _ _ old carried.hub ends' s.order.items event link carried.link result of
    (heard.link.failures ∙ ap (λ failed. failures_after failed (g.L.Link.failures link)) (sym (stopped_by_none result (of_no_link result c.keep.ensures.memory))))
    (length-set (set s.ends.items (n - 1) (with_client e carried.client)) (n - 1) c.keep.new.self ∙
    length-set s.ends.items (n - 1) (with_client e carried.client))
    (both_ok result (λ _. KeepsHeard c.index_mut-3.result.now c.keep.new.self carried.heard) (λ outcome. outcome ≡ Done)
    (Happens g.L.Link.is_honest old new event) c.keep.ensures.kept
    c.keep.ensures.done (λ outcome kept done. subst (Happens g.L.Link.is_honest old new event) (sym done)
    (moves_to_client g.L.Link.is_honest c.readings_go_on.ensures c.what_is_shown_is_read.ensures.nothing_else
    c.a_change_is_of_one_connection.ensures old carried.hub n c.args.count e c.index_mut-3.result.now c.keep.new.self carried.client link carried.link
    c.new-heard.result carried.heard of c.index_mut-2.ensures.value c.index_mut-3.ensures.value c.new-heard.ensures.replies c.new-heard.ensures.pushes
    heard.heard heard.dropped heard.link.honest kept)))
    (stops_for_memory g.L.Link.is_honest g.L.Link.failures old new result c.keep.ensures.memory)
    (if_err_of result _ _ (all_errs result _
    (bytes_lack g.L.Link.is_honest old n event (λ i is. absurd (cc)) (λ w. refl) (λ limits connection cause r. r) client)))
    (both_ok result (λ outcome. outcome ≡ Done) (λ outcome. outcome ≡ Done) (LinksAfter g.L.Link.traffic old new event) c.keep.ensures.done c.keep.ensures.done
    (λ outcome done same. subst (LinksAfter g.L.Link.traffic old new event) (sym done)
    (session_carries g.L.Link.traffic old n c.args.count link carried.link of heard.traffic))))

pub returns-in-Err : goal.returns-in-Err
returns-in-Err g c = from_inside _ _ _ c.args.number _ _ _ _ _ c.self.view_is c.requires (λ client.
    let s = c.self.inside in
    let n = c.args.number in
    let link = c.index_mut.result.now in
    let event = ToClient n c.args.count in
    let old = world_of s.hub s.ends.items s.links.items s.order.items s.stopped in
    let of : IsLinkOf old n link = record { as_many = c.self.invariant; client = client; is = c.index_mut.ensures.value } in
    over_link _ _ _ old _ _ _ event link _ _ of c.in-Err.ensures.link.failures (length-set s.ends.items (n - 1) _) tt
    (stops_to_client _ _ c.readings_go_on.ensures c.what_is_shown_is_read.ensures.no_fault c.a_change_is_of_one_connection.ensures old n
    c.index_mut-2.result.now link _ c.new-heard.result _ _ of c.index_mut-2.ensures.value c.in-Err.ensures.refusal)
    (λ memory. bytes_lack _ old n event (λ i is. absurd (cc)) (λ w. refl) (λ limits connection cause r. r) client) tt)
