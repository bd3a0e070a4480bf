use Rattle.resp_c.proofs.Refusals.{events_show}
use Rattle.resp_c.proofs.laws.events_show_a_refusal.Goals as goal

pub returns : goal.returns
returns c = events_show
