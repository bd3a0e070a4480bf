use Rattle.resp_decode.proofs.EqualEvents.{equal_events_give_equal_values}
use Rattle.resp_decode.proofs.laws.equal_events_give_equal_values.Goals as goal

pub returns : goal.returns
returns c = equal_events_give_equal_values
