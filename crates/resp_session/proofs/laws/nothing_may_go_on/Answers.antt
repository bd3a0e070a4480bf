use Rattle.resp_session.proofs.ShownIsRead.{nothing_may_go_on}
use Rattle.resp_session.proofs.laws.nothing_may_go_on.Goals as goal

pub returns : goal.returns
returns c = nothing_may_go_on c.no_spelling_is_empty.ensures c.the_empty_text_is_viable.ensures
