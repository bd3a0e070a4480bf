use Rattle.std.proofs.Common.{rules, ◌≡◌, refl, ap, ◌∙◌}
use mir.Val.{of_z, to_z}
use mir.Syntax.{w64}
use Rattle.resp_value.specs.Data.{scalar}
use Rattle.resp_value.specs.Data as d
use Rattle.resp_fronts.specs.Events as e
use Rattle.resp_decode.specs.Builds.{with_value}
use Rattle.resp_decode.specs.Holding.{construction_of}
use Rattle.resp_decode.proofs.Taking.{hears_scalar, takes_in_scalar}
use Rattle.resp_decode.proofs.held.HeldPartsListener.int.Goals as goal

pub returns : goal.returns
returns c =
    let old = c.args.self.now in
    let number : to_z w64 (of_z w64 c.args.number) ≡ c.args.number = search rules in
    let takes = takes_in_scalar old c.put_scalar.new.self (e.Int c.args.number) (scalar (d.Int c.args.number)) c.put_scalar.result refl refl
    (λ goes. c.put_scalar.ensures.holds goes ∙ ap (λ n. with_value (scalar (d.Int n)) (construction_of old)) number) c.put_scalar.ensures.weighs in
    hears_scalar old c.put_scalar.new.self (e.Int c.args.number) c.put_scalar.result takes c.put_scalar.ensures.memory_for_members
