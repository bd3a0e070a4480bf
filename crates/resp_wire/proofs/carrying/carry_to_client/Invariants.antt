use Rattle.std.proofs.Common.{◌-◌, ◌≡◌, ◌≤◌, ◌++◌, take, drop, IfSome}
use Rattle.resp_client.specs.Clients.{state_of}
use Rattle.resp_client.specs.Hearing.{WhereTaken}
use Rattle.resp_server.specs.Hubs.{Seat, seat_at, seated}
use Rattle.resp_wire.specs.Hearing.{HearsAll}
use Rattle.resp_wire.specs.Links.{Carries}
use Rattle.resp_wire.specs.declared.link.Direction.TheVariants.{ToClient}
use Rattle.resp_wire.proofs.carrying.carry_to_client.Given as goal

abbrev pub invariant-loop-done : goal.invariant-loop-done
invariant-loop-done g l = record {
  heard : g.L.Link.is_honest l.fn.link → IfSome (seat_at l.fn.hub l.fn.id) (λ (s : Seat).
      WhereTaken l.fn.client (λ front. HearsAll (state_of l.fn.client) l.client l.fn.heard l.heard (front ++ take l.done s.out)));
  dropped : IfSome (seat_at l.fn.hub l.fn.id) (λ (s : Seat). l.hub ≡ seated l.fn.hub l.fn.id (record s { out = drop l.done s.out }));
  traffic : IfSome (seat_at l.fn.hub l.fn.id) (λ (s : Seat).
      Carries ToClient (take l.done s.out) (g.L.Link.traffic l.fn.link) (g.L.Link.traffic l.link));
  honest : g.L.Link.is_honest l.fn.link → g.L.Link.is_honest l.link;
  none_failed : g.L.Link.failures l.link ≡ g.L.Link.failures l.fn.link;
  within : l.done ≤ l.total;
}

abbrev pub decreases-loop-done : goal.decreases-loop-done
decreases-loop-done g l = l.total - l.done
