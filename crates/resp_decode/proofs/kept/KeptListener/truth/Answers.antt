use Rattle.std.proofs.Common.{refl}
use Rattle.resp_value.specs.Data.{scalar}
use Rattle.resp_value.specs.Data as d
use Rattle.resp_fronts.specs.Events as e
use Rattle.resp_decode.proofs.Keeps.{kept_hears_scalar}
use Rattle.resp_decode.proofs.Taking.{takes_in_scalar}
use Rattle.resp_decode.proofs.kept.KeptListener.truth.Goals as goal

pub returns : goal.returns
returns c =
    let old = c.args.self.now in
    let event = e.Bool c.args.truth in
    let takes = takes_in_scalar old.held c.put_scalar.new.self event (scalar (d.Bool c.args.truth)) c.put_scalar.result refl refl
    c.put_scalar.ensures.holds c.put_scalar.ensures.weighs in
    kept_hears_scalar old c.put_scalar.new.self event c.put_scalar.result tt takes (λ b may. may.0) c.put_scalar.ensures.memory_for_members
