use Rattle.std.proofs.Common.{◌-◌, Err, Ok, refl}
use Rattle.std.proofs.lemmas.List.{length-set}
use Rattle.resp_value.specs.declared.cause.Cause.TheVariants.{NoSession}
use Rattle.resp_session.specs.Worlds.{Drop}
use Rattle.resp_wire.specs.declared.event.Outcome.TheVariants.{Done}
use Rattle.resp_wire.proofs.worlds.Moves.{drops, is_there}
use Rattle.resp_wire.proofs.worlds.Performed.{from_inside, over_none}
use Rattle.resp_wire.proofs.worlds.Places.{world_of}
use Rattle.resp_wire.proofs.world.World.drop_client.Goals as goal

pub returns-in-Err : goal.returns-in-Err
returns-in-Err g c = from_inside _ _ _ c.args.number _ _ _ _ _ c.self.view_is c.requires (λ client.
    let s = c.self.inside in
    let old = world_of s.hub s.ends.items s.links.items s.order.items s.stopped in
    over_none _ _ _ old _ _ (Err NoSession) (λ outcome. refl) refl refl refl refl tt
    (is_there _ _ old old c.args.number NoSession client c.in-Err.ensures.none)
    (λ memory. absurd (cc)))

pub returns : goal.returns
returns g c = from_inside _ _ _ c.args.number _ _ _ _ _ c.self.view_is c.requires (λ client.
    let s = c.self.inside in
    over_none _ _ _ _ _ (Drop c.args.number) (Ok Done) (λ outcome. refl) refl refl (length-set s.ends.items (c.args.number - 1) _) tt
    (drops _ c.a_change_is_of_one_connection.ensures _ c.close.new.self c.args.number c.index_mut.result.now client c.index_mut.ensures.value
    c.in_default.ensures.closed c.in_default.ensures.gone) tt tt)
