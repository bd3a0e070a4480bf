use Rattle.std.proofs.Common.{◌-◌, ◌≡◌, ◌≤◌, ◌++◌, take}
use Rattle.resp_client.specs.Clients.{state_of, without_front}
use Rattle.resp_client.specs.Hearing.{KeepsReading}
use Rattle.resp_server.specs.Handling.{WhereOpen}
use Rattle.resp_wire.specs.Carrying.{HasBrought}
use Rattle.resp_wire.specs.Links.{Carries}
use Rattle.resp_wire.specs.declared.link.Direction.TheVariants.{ToServer}
use Rattle.resp_wire.proofs.carrying.carry_to_server.Given as goal

abbrev pub invariant-loop-done : goal.invariant-loop-done
invariant-loop-done g l = record {
  brought : g.L.Link.is_honest l.fn.link → WhereOpen l.fn.hub l.fn.id (λ s front.
      HasBrought l.fn.hub l.hub l.fn.id s (front ++ take l.done (state_of l.fn.client).out) l.fn.order.items l.order.items l.fn.number);
  honest : g.L.Link.is_honest l.fn.link → g.L.Link.is_honest l.link;
  none_failed : g.L.Link.failures l.link ≡ g.L.Link.failures l.fn.link;
  sent : state_of l.client ≡ without_front l.done (state_of l.fn.client);
  traffic : Carries ToServer (take l.done (state_of l.fn.client).out) (g.L.Link.traffic l.fn.link) (g.L.Link.traffic l.link);
  same_reading : KeepsReading l.fn.client l.client;
  within : l.done ≤ l.total;
}

abbrev pub decreases-loop-done : goal.decreases-loop-done
decreases-loop-done g l = l.total - l.done
