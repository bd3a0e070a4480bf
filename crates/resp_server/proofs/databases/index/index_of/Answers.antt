use Rattle.std.proofs.Common.{◌≡◌, ℤ, pos, negsuc, FitsSigned, ℕ, ◌<◌, ◌^◌, true, false, List, Result, Ok, Err, sym, ap, ◌∙◌, rules, arith, to_z, of_z, nat_abs}
use Rattle.std.proofs.lemmas.Int.{ints}
use lib.Signed.{lt_z}
use Rattle.std.specs.Fmt.{signed_decimal}
use Rattle.std.specs.Int.{w64}
use Rattle.std.specs.Int.Signed.{mag}
use Rattle.std.proofs.lemmas.Fmt.{signed_decimal_injective}
use Rattle.std.proofs.lemmas.Int.{to_z-of_z}
use Rattle.resp_server.specs.Indexes.{IsIndexed, index_of}
use Rattle.resp_server.specs.declared.refusal.Refusal.{Refusal}
use Rattle.resp_server.specs.declared.refusal.Refusal.TheVariants.{FarIndex, NoDatabase}
use Rattle.resp_server.proofs.databases.index.index_of.Goals as goal
use Rattle.resp_server.proofs.databases.index.index_of.Goals.{then-integer-ltminus2147483648-via-then-integer-ltminus2147483648, then-integer-ltminus2147483648-via-else-integer-ltminus2147483648+then-integer-gt2147483647}
use Rattle.resp_server.proofs.databases.index.index_of.Goals.{then-integer-lt0-via-then-integer-lt0, then-integer-lt0-via-else-integer-lt0+then-integer-gt15}

chosen : (z : ℤ) → lt_z z (pos 0) ≡ false → lt_z (pos 15) z ≡ false → index_of z ≡ Ok (nat_abs z)
chosen z a b = grind (arith, ints)

far_below : (z : ℤ) → lt_z z (negsuc 2147483647) ≡ true → index_of z ≡ Err FarIndex
far_below z a = grind (arith, ints)

far_above : (z : ℤ) → lt_z (pos 2147483647) z ≡ true → index_of z ≡ Err FarIndex
far_above z a = grind (arith, ints)

none_below : (z : ℤ) → lt_z z (negsuc 2147483647) ≡ false → lt_z z (pos 0) ≡ true → index_of z ≡ Err NoDatabase
none_below z a b = grind (arith, ints)

none_above : (z : ℤ) → lt_z (pos 2147483647) z ≡ false → lt_z (pos 15) z ≡ true → index_of z ≡ Err NoDatabase
none_above z a b = grind (arith, ints)

small : (z : ℤ) → FitsSigned w64 z → mag z < 2 ^ 63
small z fits = search rules

-- the result for the integer of the word
indexed : (word : List ℕ) (y : ℤ) (result : Result ℕ Refusal) → FitsSigned w64 y → word ≡ signed_decimal y → index_of y ≡ result → IsIndexed word result
indexed word y result fits text is = record {
  integer = λ z fits' text'. sym is ∙ ap index_of (signed_decimal_injective y z (small y fits) (small z fits') (sym text ∙ text'));
  other = λ no. absurd (no y fits text);
}

pub returns-then-integer-ltminus2147483648 : goal.returns-then-integer-ltminus2147483648
returns-then-integer-ltminus2147483648 c =
    let y = c.in-Some.integer in
    let fits : FitsSigned w64 y = search rules in
    let number = to_z-of_z w64 y fits in
    indexed c.args.word.now y (Err FarIndex) fits c.in-Some.ensures.some (elim c.then-integer-ltminus2147483648.branch [
      | then-integer-ltminus2147483648-via-then-integer-ltminus2147483648 w ↦ far_below y
          (ap (λ z. lt_z z (negsuc 2147483647)) (sym number) ∙ w.if-integer-ltminus2147483648.true)
      | then-integer-ltminus2147483648-via-else-integer-ltminus2147483648+then-integer-gt2147483647 w ↦ far_above y
          (ap (lt_z (pos 2147483647)) (sym number) ∙ w.if-integer-gt2147483647.true)
    ])

pub returns-then-integer-lt0 : goal.returns-then-integer-lt0
returns-then-integer-lt0 c =
    let y = c.in-Some.integer in
    let fits : FitsSigned w64 y = search rules in
    let number = to_z-of_z w64 y fits in
    indexed c.args.word.now y (Err NoDatabase) fits c.in-Some.ensures.some (elim c.then-integer-lt0.branch [
      | then-integer-lt0-via-then-integer-lt0 w ↦ none_below y (ap (λ z. lt_z z (negsuc 2147483647)) (sym number) ∙ c.if-integer-ltminus2147483648.false)
          (ap (λ z. lt_z z (pos 0)) (sym number) ∙ w.if-integer-lt0.true)
      | then-integer-lt0-via-else-integer-lt0+then-integer-gt15 w ↦ none_above y (ap (lt_z (pos 2147483647)) (sym number) ∙ c.if-integer-gt2147483647.false)
          (ap (lt_z (pos 15)) (sym number) ∙ w.if-integer-gt15.true)
    ])

pub returns : goal.returns
returns c =
    let y = c.in-Some.integer in
    let fits : FitsSigned w64 y = search rules in
    let number = to_z-of_z w64 y fits in
    indexed c.args.word.now y (Ok (nat_abs (to_z w64 (of_z w64 y)))) fits c.in-Some.ensures.some
    (chosen y (ap (λ z. lt_z z (pos 0)) (sym number) ∙ c.if-integer-lt0.false) (ap (lt_z (pos 15)) (sym number) ∙ c.if-integer-gt15.false) ∙
    ap (λ z. Ok (nat_abs z)) (sym number))
