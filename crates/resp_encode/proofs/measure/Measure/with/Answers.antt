use Rattle.resp_encode.proofs.Found.{describes_with}
use Rattle.resp_encode.proofs.measure.Measure.with.Goals as goal

pub returns : goal.returns
returns c = λ version xs x each one. describes_with version xs x c.args.self.now c.args.next.now _ _ _ _ c.max.ensures
    c.max-2.ensures c.max-3.ensures
    c.sum.ensures each one
