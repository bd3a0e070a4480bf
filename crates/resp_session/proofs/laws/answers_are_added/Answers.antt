use Rattle.resp_session.proofs.AddedAnswers.{answers_are_added}
use Rattle.resp_session.proofs.laws.answers_are_added.Goals as goal

pub returns : goal.returns
returns c = answers_are_added
