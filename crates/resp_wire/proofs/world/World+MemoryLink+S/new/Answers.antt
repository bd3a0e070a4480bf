use Rattle.std.proofs.Common.{rules}
use Rattle.resp_session.specs.Worlds.{new_world}
use Rattle.resp_wire.specs.Worlds.{Shows}
use Rattle.resp_wire.specs.declared.link.memory.MemoryLink.{MemoryLink}
use Rattle.resp_wire.proofs.world.World+MemoryLink+S.new.Goals as goal
use Rattle.resp_wire.proofs.worlds.Memory.{over_memory}

pub returns-clause-shows : goal.returns-clause-shows
returns-clause-shows g c =
    over_memory c.over.result (λ n world. Shows {L = MemoryLink} (λ _. Unit {0}) world c.args.limits (new_world n)) c.in-Ok.links.items c.args.count
    (search rules) c.over.ensures.shows
