use Rattle.resp_session.proofs.WorldLaws.{what_is_shown_was_sent}
use Rattle.resp_session.proofs.laws.what_is_shown_was_sent.Goals as goal

pub returns : goal.returns
returns c = what_is_shown_was_sent
