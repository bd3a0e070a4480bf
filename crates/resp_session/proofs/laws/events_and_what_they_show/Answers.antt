use Rattle.std.proofs.Common.{refl}
use Rattle.resp_session.proofs.laws.events_and_what_they_show.Goals as goal

pub returns-clause-refused_push : goal.returns-clause-refused_push
returns-clause-refused_push c = λ limits. (refl, refl, refl)

pub returns-clause-nobody : goal.returns-clause-nobody
returns-clause-nobody c = λ limits. (refl, refl)
