use Rattle.resp_scan.specs.Machine.Fields.{place_of}
use Rattle.resp_scan.proofs.CallClauses.Loops.{Runs, work_left}
use Rattle.resp_scan.proofs.machine.Machine.scan.Given as goal

abbrev pub invariant-loop-self : goal.invariant-loop-self
invariant-loop-self g l = Runs g.L.Listener.Origin (place_of l.fn.self) (place_of l.self) (g.L.Listener.has_heard l.fn.listener)
    (g.L.Listener.has_heard l.listener) l.piece l.used

abbrev pub decreases-loop-self : goal.decreases-loop-self
decreases-loop-self g l = work_left (place_of l.self) l.piece l.used
