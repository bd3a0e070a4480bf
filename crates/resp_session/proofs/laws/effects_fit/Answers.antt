use Rattle.resp_session.proofs.FittingReplies.{effects_fit}
use Rattle.resp_session.proofs.laws.effects_fit.Goals as goal

pub returns : goal.returns
returns c = effects_fit
