use Rattle.resp_session.proofs.Pushed.{pushes_are_of_events, shown_pushes_are_of_events}
use Rattle.resp_session.proofs.laws.pushes_are_of_events.Goals as goal

pub returns-clause-sent : goal.returns-clause-sent
returns-clause-sent c = pushes_are_of_events

pub returns-clause-shown : goal.returns-clause-shown
returns-clause-shown c = shown_pushes_are_of_events
