use Rattle.resp_session.proofs.WorldLaws.{a_world_has_one_order}
use Rattle.resp_session.proofs.laws.a_world_has_one_order.Goals as goal

pub returns : goal.returns
returns c = a_world_has_one_order
