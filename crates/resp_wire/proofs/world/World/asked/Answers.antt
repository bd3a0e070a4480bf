use Rattle.std.proofs.Common.{◌∙◌, ap, map, sym}
use Rattle.resp_wire.specs.Requests.{request_of}
use Rattle.resp_wire.proofs.worlds.Parts.{of_client}
use Rattle.resp_wire.proofs.world.World.asked.Goals as goal

pub returns : goal.returns
returns g c =
    of_client g.L.Link.is_honest c.args.self.now _ c.args.number c.index.result.now _ (sym c.self.view_is) c.requires c.index.ensures
    (λ limits d shown. ap (map request_of) c.as_slice.ensures.value ∙ shown.asked)
