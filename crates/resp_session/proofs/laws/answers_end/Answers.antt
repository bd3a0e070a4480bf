use Rattle.resp_session.proofs.TextsInPieces.{answers_end}
use Rattle.resp_session.proofs.laws.answers_end.Goals as goal

pub returns : goal.returns
returns c = answers_end c.fronts_of_spellings_are_viable.ensures
