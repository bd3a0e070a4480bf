-- Steps that refuse a byte.
use Rattle.std.proofs.Common.{◌≡◌, ℕ, ◌-◌, List, Result, Ok, Err, IfErr, sym, ap, ◌∙◌}
use Rattle.resp_value.specs.declared.cause.Cause.{Cause}
use Rattle.resp_scan.specs.declared.event.Step.{Step}
use Rattle.resp_scan.specs.declared.event.Fault.{Fault}
use Rattle.resp_scan.specs.Machine.Tokens.{Place, Dead}
use Rattle.resp_scan.specs.Machine.Scan.{Out, Bad, out_from}
use Rattle.resp_scan.specs.Machine.Sound.{IsSound}
use Rattle.resp_scan.specs.Reading.{IsFaulted}
use Rattle.resp_scan.specs.Machine.StepOutcomes.{after_bytes, after_step, out_of_step}
use Rattle.resp_scan.proofs.Soundness.Kept.{IsOut, is_advanced}

bad_dead : (n : ℕ) (c : Cause) (s t : Place) (o : Out) → IsOut s o → Bad n c t ≡ after_step o → t.token ≡ Dead c
bad_dead n c s t (Bad k d u) h e = let q : t ≡ after_bytes k u = cc in let z : c ≡ d = cc in ap (λ v. v.token) q ∙ h.1 ∙ ap Dead (sym z)
bad_dead n c s t _ h e = absurd (cc)

-- an error is the fault of the place that the step leaves
pub is_faulted : (r : Result Step Fault) (s t : Place) (p : List ℕ) → IsSound s → out_of_step s.taken r t ≡ after_step (out_from s p) →
    IfErr r (λ fault. fault.at ≡ t.taken) → IfErr r (IsFaulted t)
is_faulted (Ok step) s t p sound h at = tt
is_faulted (Err fault) s t p sound h at = (bad_dead (fault.at - s.taken) fault.cause s t (out_from s p) (is_advanced s p sound) h, sym at)
