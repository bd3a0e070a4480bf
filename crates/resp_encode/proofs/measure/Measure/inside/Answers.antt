use Rattle.resp_value.specs.Kinds.{kind_of}
use Rattle.resp_encode.proofs.Found.{describes_inside}
use Rattle.resp_encode.proofs.measure.Measure.inside.Goals as goal

pub returns : goal.returns
returns c = λ version xs each e. describes_inside version (kind_of c.args.kind) xs c.args.self.now _ _ c.args.items _ _
    _ _ c.is_in_two.ensures
    c.is_below.ensures e c.saturating_add.ensures c.max.ensures c.head_size.ensures.size c.sum.ensures each
