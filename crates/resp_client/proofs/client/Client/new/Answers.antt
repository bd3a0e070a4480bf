use Rattle.std.proofs.Common.{[], ap, inl, refl}
use Rattle.resp_value.specs.Rules.{Rules}
use Rattle.resp_value.specs.declared.version.Version.TheVariants.{Two}
use Rattle.resp_client.proofs.Fronts.{takes_nothing}
use Rattle.resp_client.proofs.client.Client.new.Goals as goal

pub invariant_of-result-clause-reading : goal.invariant_of-result-clause-reading
invariant_of-result-clause-reading c =
    ∣ inl (
      [],
      takes_nothing c.args.limits.now (record { version = Two; asks = c.new.result.items }) c.new-3.result _ c.new-3.ensures.nothing_taken
          (ap (λ (r : Rules). r.limits) c.new-3.ensures.rules) refl,
    ) ∣₁
