use Rattle.resp_session.proofs.Changes.{as_many, changed_at, others_stay}
use Rattle.resp_session.proofs.laws.a_change_is_of_one_connection.Goals as goal

pub returns : goal.returns
returns c = λ f cs i. (as_many f cs i, changed_at f cs i, others_stay f cs i)
