use Rattle.resp_c.proofs.ManyEvents.{SoFar}
use Rattle.resp_c.proofs.scan.resp_scanner_scan.Given as goal

abbrev pub invariant-loop-event : goal.invariant-loop-event
invariant-loop-event l = SoFar l.initial.scanner l.scanner l.fn.piece l.rest l.fn.events l.events l.event-index l.count
