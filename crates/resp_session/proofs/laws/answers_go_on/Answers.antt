use Rattle.resp_session.proofs.TextsInPieces.{answers_go_on}
use Rattle.resp_session.proofs.laws.answers_go_on.Goals as goal

pub returns : goal.returns
returns c = answers_go_on
