-- What holds of each byte of a list, by a test that computes.
use Rattle.std.proofs.Common.{◌≡◌, ℕ, ◌<◌, Bool, true, false, not, cond, eqb, leb, List, [], ◌∷◌, length, refl, arith}
use Rattle.std.specs.List.{AllByRecursion}
use Rattle.std.proofs.lemmas.Bool.{eqb-false, leb-true}
use Rattle.resp_value.specs.Bytes.{IsByte, IsPlain, IsLine}
use Rattle.resp_value.specs.Numbers.{IsDigit, IsDigits}

-- whether each byte passes a test
abbrev pub each_passes : (ℕ → Bool) → List ℕ → Bool
each_passes test [] = true
each_passes test (b ∷ bs) = cond (test b) (each_passes test bs) false

-- where two tests pass, each does
both_pass : (a b : Bool) → cond a b false ≡ true → (a ≡ true) × (b ≡ true)
both_pass true true e = (refl, refl)
both_pass true false e = absurd (cc)
both_pass false b e = absurd (cc)

fails : (b : Bool) → not b ≡ true → b ≡ false
fails true e = absurd (cc)
fails false e = refl

-- what a test tells of a byte holds of each byte of a list that passes it
pub all_by_test : (P : ℕ → Type 0) (test : ℕ → Bool) → ((b : ℕ) → test b ≡ true → P b) → (bytes : List ℕ) → each_passes test bytes ≡ true →
    AllByRecursion P bytes
all_by_test P test tells [] passes = tt
all_by_test P test tells (b ∷ bs) passes =
    let both = both_pass (test b) (each_passes test bs) passes in
    (tells b both.0, all_by_test P test tells bs both.1)

-- none of these bytes is this one
pub apart_by_test : (byte : ℕ) (bytes : List ℕ) → each_passes (λ b. not (eqb b byte)) bytes ≡ true → AllByRecursion (λ b. b ≡ byte → ⊥) bytes
apart_by_test byte = all_by_test (λ b. b ≡ byte → ⊥) (λ b. not (eqb b byte)) (λ b passes. eqb-false b byte (fails (eqb b byte) passes))

-- each of these bytes is above CR
pub above_by_test : (bytes : List ℕ) → each_passes (λ b. leb 14 b) bytes ≡ true → AllByRecursion (λ b. 13 < b) bytes
above_by_test = all_by_test (λ b. 13 < b) (λ b. leb 14 b) (λ b passes. let h = leb-true 14 b passes in omega arith)

-- each of these is a byte
pub bytes_by_test : (bytes : List ℕ) → each_passes (λ b. leb b 255) bytes ≡ true → AllByRecursion IsByte bytes
bytes_by_test = all_by_test IsByte (λ b. leb b 255) (λ b passes. let h = leb-true b 255 passes in omega arith)

-- none of these bytes is a CR or an LF
pub line_by_test : (bytes : List ℕ) → each_passes (λ b. leb 14 b) bytes ≡ true → IsLine bytes
line_by_test = all_by_test IsPlain (λ b. leb 14 b) (λ b passes. let h = leb-true 14 b passes in (λ e. omega arith, λ e. omega arith))

-- these are digits
pub digits_by_test : (digits : List ℕ) → 0 < length digits → each_passes (λ d. cond (leb 48 d) (leb d 57) false) digits ≡ true → IsDigits digits
digits_by_test digits full passes = (
  full,
  all_by_test IsDigit (λ d. cond (leb 48 d) (leb d 57) false) (λ d pass. let both = both_pass (leb 48 d) (leb d 57) pass in
      (leb-true 48 d both.0, leb-true d 57 both.1)) digits passes,
)
