use Rattle.resp_session.proofs.FittingSent.{a_push_happens, pushes_that_fit_are_sent, requests_that_fit_are_sent}
use Rattle.resp_session.proofs.laws.what_fits_is_sent.Goals as goal

pub returns-clause-requests : goal.returns-clause-requests
returns-clause-requests c = requests_that_fit_are_sent

pub returns-clause-pushes : goal.returns-clause-pushes
returns-clause-pushes c = pushes_that_fit_are_sent

pub returns-clause-a_push : goal.returns-clause-a_push
returns-clause-a_push c = a_push_happens
