use Rattle.resp_session.proofs.ShownWithin.{arrivals_stay, what_has_come_was_sent}
use Rattle.resp_session.proofs.laws.what_has_come_was_sent.Goals as goal

pub returns-clause-was_sent : goal.returns-clause-was_sent
returns-clause-was_sent c = what_has_come_was_sent

pub returns-clause-stays : goal.returns-clause-stays
returns-clause-stays c = arrivals_stay
