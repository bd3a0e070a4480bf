use Rattle.std.proofs.Common.{refl}
use Rattle.resp_value.specs.Data.{scalar}
use Rattle.resp_value.specs.Data as d
use Rattle.resp_fronts.specs.Events as e
use Rattle.resp_decode.proofs.Taking.{hears_scalar, takes_in_scalar}
use Rattle.resp_decode.proofs.held.HeldPartsListener.truth.Goals as goal

pub returns : goal.returns
returns c =
    let takes = takes_in_scalar c.args.self.now c.put_scalar.new.self (e.Bool c.args.truth) (scalar (d.Bool c.args.truth)) c.put_scalar.result refl refl
    c.put_scalar.ensures.holds c.put_scalar.ensures.weighs in
    hears_scalar c.args.self.now c.put_scalar.new.self (e.Bool c.args.truth) c.put_scalar.result takes c.put_scalar.ensures.memory_for_members
