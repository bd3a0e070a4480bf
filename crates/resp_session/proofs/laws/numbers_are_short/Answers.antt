use Rattle.resp_session.proofs.SmallValues.{numbers_are_short}
use Rattle.resp_session.proofs.laws.numbers_are_short.Goals as goal

pub returns : goal.returns
returns c = numbers_are_short
