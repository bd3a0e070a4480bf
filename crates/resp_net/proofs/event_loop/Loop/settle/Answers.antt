use Rattle.std.proofs.Common.{length, ap, arith}
use Rattle.resp_schedule.specs.Plans.{due_of}
use Rattle.resp_schedule.proofs.Lists.{length-without}
use Rattle.resp_net.proofs.event_loop.Loop.settle.Goals as goal

pub returns-in-Close-clause-due : goal.returns-in-Close-clause-due
returns-in-Close-clause-due g c =
    omega (arith, ap length c.close.ensures.due, length-without c.args.place (due_of c.args.self.now.schedule))
