use Rattle.resp_decode.proofs.EventsElsewhere.{events_elsewhere}
use Rattle.resp_decode.proofs.laws.events_are_the_same_elsewhere.Goals as goal

pub returns : goal.returns
returns c = events_elsewhere
