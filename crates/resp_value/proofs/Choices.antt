-- Either answer of a test on two numbers, with what it says of them.
use Rattle.std.specs.Prelude.{◌≡◌, ℕ, ◌<◌, ◌≤◌, Bool, true, false, eqb, nat_le, nat_lt, refl}
use Rattle.std.proofs.lemmas.Bool.Decides.{nat_tests}
use Rattle.std.proofs.Common.{arith}

-- whether two numbers are equal
pub if_equal : (a b : ℕ) (P : Bool → Type 0) → (a ≡ b → P true) → ((a ≡ b → ⊥) → P false) → P (eqb a b)
if_equal a b P holds fails =
    elim (eqb a b) as (λ x. eqb a b ≡ x → P x) [
      | true ↦ λ x. holds (grind (arith, nat_tests))
      | false ↦ λ x. fails (λ e. grind (arith, nat_tests))
    ] refl

-- whether a number is at most another
pub if_within : (a b : ℕ) (P : Bool → Type 0) → (a ≤ b → P true) → (b < a → P false) → P (nat_le a b)
if_within a b P holds fails =
    elim (nat_le a b) as (λ x. nat_le a b ≡ x → P x) [
      | true ↦ λ x. holds (grind (arith, nat_tests))
      | false ↦ λ x. fails (grind (arith, nat_tests))
    ] refl

-- whether a number is below another
pub if_below : (a b : ℕ) (P : Bool → Type 0) → (a < b → P true) → (b ≤ a → P false) → P (nat_lt a b)
if_below a b P holds fails =
    elim (nat_lt a b) as (λ x. nat_lt a b ≡ x → P x) [
      | true ↦ λ x. holds (grind (arith, nat_tests))
      | false ↦ λ x. fails (grind (arith, nat_tests))
    ] refl

-- a number that isn't 0 is above it
pub positive : (n : ℕ) → (n ≡ 0 → ⊥) → 0 < n
positive n some = grind (arith, nat_tests)
