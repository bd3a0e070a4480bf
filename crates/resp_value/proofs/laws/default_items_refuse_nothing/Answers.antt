use Rattle.resp_value.proofs.DefaultLimits.{default_items_refuse_nothing}
use Rattle.resp_value.proofs.laws.default_items_refuse_nothing.Goals as goal

pub returns : goal.returns
returns c = default_items_refuse_nothing
