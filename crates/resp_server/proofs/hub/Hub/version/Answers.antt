use Rattle.std.proofs.Common.{ap}
use Rattle.std.specs.Option.{option_map}
use Rattle.resp_server.specs.Hubs.{Seat}
use Rattle.resp_server.proofs.Seats.{seat_is}
use Rattle.resp_server.proofs.hub.Hub.version.Goals as goal

pub returns-in-Some-clause-version : goal.returns-in-Some-clause-version
returns-in-Some-clause-version g c =
    ap (option_map (λ (s : Seat). s.version)) (seat_is _ _ _ _ c.args.self.now c.self.view_is c.args.id
    c.in-Some.ensures.value)

pub returns-in-None-clause-none : goal.returns-in-None-clause-none
returns-in-None-clause-none g c = seat_is _ _ _ _ c.args.self.now c.self.view_is c.args.id c.in-None.ensures.value
