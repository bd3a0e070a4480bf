use Rattle.std.proofs.Common.{Some, ap, sym, ◌∙◌}
use Rattle.std.specs.Option.{option_map}
use Rattle.resp_server.specs.Hubs.{Seat}
use Rattle.resp_server.proofs.Seats.{seat_is}
use Rattle.resp_server.proofs.hub.Hub.out.Goals as goal

pub returns-in-Some-clause-waiting : goal.returns-in-Some-clause-waiting
returns-in-Some-clause-waiting g c =
    ap (option_map (λ (s : Seat). s.out)) (seat_is _ _ _ _ c.args.self.now c.self.view_is c.args.id
    c.in-Some.ensures.value) ∙ ap Some (sym c.as_slice.ensures)

pub returns-in-None-clause-none : goal.returns-in-None-clause-none
returns-in-None-clause-none g c = seat_is _ _ _ _ c.args.self.now c.self.view_is c.args.id c.in-None.ensures.value
