-- What is said of a cause that no option lets through.
use Rattle.std.proofs.Common.{◌≡◌, ℕ, List, refl, codes}
use Rattle.resp_value.specs.Rules.{Rules}
use Rattle.resp_value.specs.declared.cause.Cause.{Cause}
use Rattle.resp_value.specs.declared.cause.Cause.TheVariants as cause
use Rattle.resp_cli_stream.specs.Explained.{cause_text}

pub other_cause : (r : Rules) (missing : ℕ) (after : List ℕ) (c : Cause) → (c ≡ cause.Double → ⊥) → (c ≡ cause.Version → ⊥) → (c ≡ cause.NestedPush → ⊥) →
    (c ≡ cause.Range → ⊥) → (c ≡ cause.Depth → ⊥) → (c ≡ cause.Length → ⊥) → (c ≡ cause.Total → ⊥) → (c ≡ cause.Truncated → ⊥) →
    (c ≡ cause.Streamed → ⊥) → (c ≡ cause.Items → ⊥) → cause_text r missing after c ≡ codes "a valid value cannot contain this byte here"
other_cause r missing after cause.Double n0 n1 n2 n3 n4 n5 n6 n7 n8 n9 = absurd (n0 refl)
other_cause r missing after cause.Version n0 n1 n2 n3 n4 n5 n6 n7 n8 n9 = absurd (n1 refl)
other_cause r missing after cause.NestedPush n0 n1 n2 n3 n4 n5 n6 n7 n8 n9 = absurd (n2 refl)
other_cause r missing after cause.Range n0 n1 n2 n3 n4 n5 n6 n7 n8 n9 = absurd (n3 refl)
other_cause r missing after cause.Depth n0 n1 n2 n3 n4 n5 n6 n7 n8 n9 = absurd (n4 refl)
other_cause r missing after cause.Length n0 n1 n2 n3 n4 n5 n6 n7 n8 n9 = absurd (n5 refl)
other_cause r missing after cause.Total n0 n1 n2 n3 n4 n5 n6 n7 n8 n9 = absurd (n6 refl)
other_cause r missing after cause.Truncated n0 n1 n2 n3 n4 n5 n6 n7 n8 n9 = absurd (n7 refl)
other_cause r missing after cause.Streamed n0 n1 n2 n3 n4 n5 n6 n7 n8 n9 = absurd (n8 refl)
other_cause r missing after cause.Items n0 n1 n2 n3 n4 n5 n6 n7 n8 n9 = absurd (n9 refl)
other_cause r missing after _ n0 n1 n2 n3 n4 n5 n6 n7 n8 n9 = refl
