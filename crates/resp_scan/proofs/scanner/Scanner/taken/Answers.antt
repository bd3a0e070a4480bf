use Rattle.std.proofs.Common.{arith}
use Rattle.resp_scan.specs.Machine.Fields.{place_of}
use Rattle.resp_scan.proofs.CallClauses.Calls.{begin_due}
use Rattle.resp_scan.proofs.CallClauses.LeastNeeded.{followed_is_viable}
use Rattle.resp_scan.proofs.DueEvents.GivenCounts.{events_are_few, no_done_given}
use Rattle.resp_scan.proofs.scanner.Scanner.taken.Goals as goal

pub returns-clause-no_more_events_than_bytes : goal.returns-clause-no_more_events_than_bytes
returns-clause-no_more_events_than_bytes c =
    let s = place_of c.self.inside.machine in
    rw (← c.self.view_is) (λ front es w. omega (arith, events_are_few s front es w.stands, w.taken))

pub returns-clause-first_of_those_due : goal.returns-clause-first_of_those_due
returns-clause-first_of_those_due c = rw (← c.self.view_is) (λ front es w. begin_due (place_of c.self.inside.machine) front es c.self.invariant w)

pub returns-clause-no_value_ended : goal.returns-clause-no_value_ended
returns-clause-no_value_ended c = rw (← c.self.view_is) (λ front es w. no_done_given (place_of c.self.inside.machine) front es w.stands)

pub returns-clause-viable : goal.returns-clause-viable
returns-clause-viable c =
    let s = place_of c.self.inside.machine in
    rw (← c.self.view_is) (λ front es w. followed_is_viable s 0 front es c.self.invariant (omega (arith, w.taken)) w.stands)
