use Rattle.std.proofs.Common.{◌≡◌, ℕ, ◌+◌, ◌-◌, List, length, Option, Some, None, take, drop, ◌++◌, ap, ◌∙◌, subst, append_assoc, arith}
use Rattle.std.proofs.lemmas.Grind.{common_steps}
use Rattle.std.proofs.lemmas.List.{take_rest}
use Rattle.std.proofs.Math.Seq.{take-add}
use Rattle.resp_io.specs.Devices.{Appends}
use Rattle.resp_io.proofs.device.write_all.Goals as goal

-- one text was appended, and then another
Appends-append : (a b c : Option (List ℕ)) (xs ys : List ℕ) → Appends a b xs → Appends b c ys → Appends a c (xs ++ ys)
Appends-append None b c xs ys first second = tt
Appends-append (Some held) b c xs ys first second =
    let then_second : Appends (Some (held ++ xs)) c ys = subst (λ v. Appends v c ys) first second in
    then_second ∙ ap Some (append_assoc held xs ys)

-- the front of a list is a shorter front, and then what stands after that
take_on : (xs : List ℕ) (i n : ℕ) → take (i + n) xs ≡ take i xs ++ take n (take (length xs - i) (drop i xs))
take_on xs i n = rw take_rest (take-add i n xs)

pub loop-written-preserved : goal.loop-written-preserved
loop-written-preserved g c = record {
  within = grind (arith, common_steps);
  part = rw take_on (Appends-append _ _ _ _ _ c.loop-written.invariant.part c.in-Ok.ensures.bytes);
  none_failed = grind (arith, common_steps);
}
