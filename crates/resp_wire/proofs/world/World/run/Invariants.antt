use Rattle.std.proofs.Common.{◌≡◌, ◌<◌, ◌≤◌, length, map, take, None}
use Rattle.resp_wire.specs.Happening.{RunsTo}
use Rattle.resp_wire.specs.Worlds.{KeepFailures, event_of}
use Rattle.resp_wire.proofs.world.World.run.Given as goal

abbrev pub invariant-loop-index : goal.invariant-loop-index
invariant-loop-index g l = record {
  within : l.index ≤ length l.fn.events;
  happens : RunsTo g.L.Link.is_honest l.fn.self l.self (take l.index (map event_of l.fn.events));
  same : l.self.stopped ≡ l.fn.self.stopped;
  keep : KeepFailures g.L.Link.failures l.fn.self.links l.self.links;
  as_many : length l.self.ends ≡ length l.fn.self.ends;
  going : 0 < l.index → l.fn.self.stopped ≡ None;
}
