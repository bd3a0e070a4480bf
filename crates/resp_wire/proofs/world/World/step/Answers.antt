use Rattle.std.proofs.Common.{sym}
use Rattle.resp_wire.proofs.world.World.step.Goals as goal
use Rattle.resp_wire.proofs.worlds.Parts.{stops_inside}

pub returns-in-Err-clause-stops : goal.returns-in-Err-clause-stops
returns-in-Err-clause-stops g c none limits w shown =
    stops_inside g.L.Link.failures c.args.self.now c.happen.new.self _ c.in-Err.cause (sym c.self-2.view_is) (c.in-Err.ensures.stops limits w shown)
