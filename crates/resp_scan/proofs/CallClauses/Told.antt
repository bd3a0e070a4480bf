-- What a step tells is what its method said.
use Rattle.std.proofs.Common.{◌≡◌, ℕ, ◌+◌, ◌-◌, ◌<◌, ◌≤◌, true, false, eqb, List, [], ◌∷◌, length, take, drop, Option, sym, ap, subst, ◌∙◌, arith}
use Rattle.std.proofs.lemmas.Grind.{common_steps}
use Rattle.std.proofs.lemmas.Bool.Decides.{nat_tests}
use Rattle.resp_scan.specs.declared.machine.Machine.{Machine}
use Rattle.resp_scan.specs.declared.machine.Advance.{Advance}
use Rattle.resp_scan.specs.declared.machine.EventTag.{EventTag}
use Rattle.resp_scan.specs.declared.event.Event.{Event}
use Rattle.resp_scan.specs.Machine.Tokens.{Place, Digit}
use Rattle.resp_scan.specs.Machine.Scan.{Gave, Part, Whole, out_from}
use Rattle.resp_scan.specs.Machine.Fields.{place_of, out_of, out_by}
use Rattle.resp_scan.specs.Parts.{IsRun}
use Rattle.resp_scan.specs.Machine.StepOutcomes.{after_bytes, after_step, out_of_event, out_of_part}
use Rattle.resp_scan.proofs.Soundness.Counted.{place_counted}

-- an event by its tag is what comes of the piece, once its bytes are counted
pub told : (g : Advance) (m : Machine) (s : Place) (p : List ℕ) (w : EventTag) (v : Option Event) → out_of g m ≡ out_from s p → g.tag ≡ w →
    out_of_event g.used v (after_bytes g.used (place_of m)) ≡ after_step (out_by w g.used m) →
    out_of_event g.used v (place_of (record m { taken = m.taken + g.used })) ≡ after_step (out_from s p)
told g m s p w v e q h =
    ap (out_of_event g.used v) (place_counted m g.used) ∙ h ∙ ap (λ x. after_step (out_by x g.used m)) (sym q) ∙ ap after_step e

-- a run of the piece is heard as a part
pub part_heard : (n k : ℕ) (q : List ℕ) (t : Place) → 0 < n → length q + k ≡ n → out_of_part (eqb n 0) n q t ≡ Part k n t
part_heard n k q t l e =
    let f : eqb n 0 ≡ false = grind (arith, nat_tests) in
    let d : n - length q ≡ k = omega (arith, e) in
    ap (λ v. out_of_part v n q t) f ∙ ap (λ v. Part v n t) d

-- a digit that is owed is heard by itself
pub digit_heard : (n d : ℕ) (q : List ℕ) (t : Place) → n ≡ 0 → q ≡ d ∷ [] → out_of_part (eqb n 0) n q t ≡ Gave n (Digit d) t
digit_heard n d q t e f = ap (λ v. out_of_part (eqb v 0) n q t) e ∙ ap (λ v. out_of_part true n v t) f

-- the end of a value is heard at a place whose bytes are counted
pub done_heard : (n : ℕ) (t : Place) → n ≡ 0 → Whole (after_bytes n (after_bytes n t)) ≡ after_step (Whole (after_bytes n t))
done_heard n t e = ap (λ v. Whole (record t { taken = v })) (let w : (t.taken + n) + n ≡ t.taken + n = omega (arith, e) in w)

-- the length of a run of the piece
pub run_length : (n k : ℕ) (piece : List ℕ) → k < n → n ≤ length piece → length (drop k (take n piece)) + k ≡ n
run_length n k piece l h = grind (arith, common_steps)

-- a run of the piece
pub run_is : (n k : ℕ) (piece q : List ℕ) → k < n → n ≤ length piece → q ≡ drop k (take n piece) → IsRun (eqb n 0) piece n q
run_is n k piece q l h e =
    let f : eqb n 0 ≡ false = grind (arith, nat_tests) in
    let j : length q + k ≡ n = ap (λ v. length v + k) e ∙ run_length n k piece l h in
    let d : k ≡ n - length q = omega (arith, j) in
    subst (λ v. IsRun v piece n q) (sym f) (omega (arith, j), e ∙ ap (λ v. drop v (take n piece)) d)

-- a digit that is owed is a run by itself
pub digit_is : (n d : ℕ) (piece q : List ℕ) → n ≡ 0 → q ≡ d ∷ [] → IsRun (eqb n 0) piece n q
digit_is n d piece q e f = subst (λ v. IsRun (eqb v 0) piece n q) (sym e) (ap length f)
