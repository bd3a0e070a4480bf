-- Where ranges begin: they follow each other, and each is at most a sixteenth as long as its times.
use Rattle.std.proofs.Common.{◌≡◌, ℕ, ◌+◌, ◌*◌, ◌^◌, ◌-◌, ◌/◌, ◌%◌, ◌<◌, ◌≤◌, inl, inr, true, false, nat_lt, refl, subst, arith, rules, zero, suc}
use Rattle.std.proofs.lemmas.Bool.{cases_lt}
use Rattle.std.proofs.lemmas.Nat.{pow_pos, pow-add, pow_below, shr_split, mod_below, le-div, div_below, shl_whole, mul-le}
use Rattle.std.proofs.Math.Nat.{pow-le-pow_right}
use Rattle.resp_stats.specs.Ranges.{start_of}

pub start_small : (r : ℕ) → r < 16 → start_of r ≡ r
start_small r small = let is : nat_lt r 16 ≡ true = search rules in rw is refl

pub start_at : (d f r : ℕ) → 16 ≤ f → f < 32 → r ≡ 16 * d + f → start_of r ≡ f * 2 ^ d
start_at d f r from to is =
    let large : 16 ≤ r = omega arith in
    let past : nat_lt r 16 ≡ false = search rules in
    let quotient : r / 16 - 1 ≡ d = omega arith in
    let rest : r % 16 + 16 ≡ f = omega arith in
    rw (past, quotient, rest) refl

double : (d : ℕ) → 2 ^ (d + 1) ≡ 2 ^ d * 2
double d = pow-add 2 d 1

pub start_next : (d f r : ℕ) → 16 ≤ f → f < 32 → r ≡ 16 * d + f → start_of (r + 1) ≡ (f + 1) * 2 ^ d
start_next d f r from to is = elim (cases_lt f 31) [
  | inl less ↦ start_at d (f + 1) (r + 1) (omega arith) (omega arith) (omega arith)
  | inr last ↦
      let next = start_at (d + 1) 16 (r + 1) (omega arith) (omega arith) (omega arith) in
      let f_is : f ≡ 31 = omega arith in
      rw (next, f_is) (omega (arith, double d))
]

pub start_large : (r : ℕ) → 16 ≤ r → start_of r ≡ (r % 16 + 16) * 2 ^ (r / 16 - 1)
start_large r large = start_at (r / 16 - 1) (r % 16 + 16) r (omega arith) (omega arith) (omega arith)

pub start_after_large : (r : ℕ) → 16 ≤ r → start_of (r + 1) ≡ (r % 16 + 17) * 2 ^ (r / 16 - 1)
start_after_large r large =
    let next = start_next (r / 16 - 1) (r % 16 + 16) r (omega arith) (omega arith) (omega arith) in
    rw next (omega arith)

pub start_step : (r : ℕ) → start_of r < start_of (r + 1)
start_step r = elim (cases_lt r 16) [
  | inl small ↦ elim (cases_lt r 15) [
    | inl smaller ↦ omega (arith, start_small r small, start_small (r + 1) (omega arith))
    | inr last ↦ let is : r ≡ 15 = omega arith in rw is (omega arith)
  ]
  | inr large ↦ grind (arith, start_large r large, start_after_large r large, pow_pos (r / 16 - 1))
]

pub start_mono : (q r : ℕ) → q ≤ r → start_of q ≤ start_of r
start_mono q zero at_most = let is : q ≡ 0 = omega arith in rw is (omega arith)
start_mono q (suc r) at_most = elim (cases_lt r q) [
  | inl equal ↦ let is : q ≡ suc r = omega arith in rw is (omega arith)
  | inr less ↦ let before = start_mono q r less in let step = start_step r in let same : r + 1 ≡ suc r = omega arith in
      let step' : start_of r < start_of (suc r) = subst (λ (n : ℕ). start_of r < start_of n) same step in omega (arith, before, step')
]

-- a range is at most a sixteenth as long as its first time
pub start_close : (r : ℕ) → 16 * start_of (r + 1) ≤ 17 * start_of r + 16
start_close r = elim (cases_lt r 16) [
  | inl small ↦ elim (cases_lt r 15) [
    | inl smaller ↦ omega (arith, start_small r small, start_small (r + 1) (omega arith))
    | inr last ↦ let is : r ≡ 15 = omega arith in rw is (omega arith)
  ]
  | inr large ↦
      let one = start_large r large in let two = start_after_large r large in
      let more : 16 * 2 ^ (r / 16 - 1) ≤ (r % 16 + 16) * 2 ^ (r / 16 - 1) =
      mul-le 16 (2 ^ (r / 16 - 1)) (r % 16 + 16) (2 ^ (r / 16 - 1)) (omega arith) (omega arith) in
      rw (one, two) (omega (arith, more))
]

-- ---- the range of a time

pub log_from : (m k : ℕ) → 32 ≤ m → m < 2 * 2 ^ k → 5 ≤ k
log_from m k large below = elim (cases_lt k 5) [
  | inl less ↦ absurd (omega (arith, pow-le-pow_right {n = 2} (omega arith) {i = k} {j = 4} (omega arith)))
  | inr enough ↦ enough
]

pub log_to : (m k : ℕ) → m ≤ 4294967295 → 2 ^ k ≤ m → k < 32
log_to m k small above = elim (cases_lt k 32) [
  | inl less ↦ less
  | inr more ↦ absurd (omega (arith, pow-le-pow_right {n = 2} (omega arith) {i = 32} {j = k} more))
]

-- the parts of a time: how often it is halved, and the rest
pub record HasParts (m d : ℕ) : Type 0 where
  pub from : 16 ≤ m / 2 ^ d
  pub to : m / 2 ^ d < 32
  pub low : m / 2 ^ d * 2 ^ d ≤ m
  pub high : m < (m / 2 ^ d + 1) * 2 ^ d

pub parts : (m k d : ℕ) → k ≡ d + 4 → 2 ^ k ≤ m → m < 2 * 2 ^ k → HasParts m d
parts m k d is low high =
    let power : 2 ^ k ≡ 2 ^ d * 16 = rw is (pow-add 2 d 4) in
    let some : 0 < 2 ^ d = pow_pos d in
    let split = shr_split m d in
    let rest = mod_below m (2 ^ d) some in
    record {
      from = le-div 16 m (2 ^ d) some (omega (arith, power, low));
      to = div_below m (2 ^ d) 32 some (omega (arith, power, high));
      low = omega (arith, split);
      high = omega (arith, split, rest);
    }

-- ---- the range at a power of two

pub small_power : (k : ℕ) → k < 4 → start_of (2 ^ k) ≡ 2 ^ k
small_power k small = start_small (2 ^ k) (pow_below k 4 small)

pub large_power : (k : ℕ) → 4 ≤ k → start_of ((k - 3) * 16) ≡ 2 ^ k
large_power k large =
    let at = start_at (k - 4) 16 ((k - 3) * 16) (omega arith) (omega arith) (omega arith) in
    let split : k - 4 + 4 ≡ k = omega arith in
    let power : 2 ^ (k - 4 + 4) ≡ 2 ^ (k - 4) * 2 ^ 4 = pow-add 2 (k - 4) 4 in
    let whole : 2 ^ k ≡ 2 ^ (k - 4) * 16 = rw split at power in rw at (omega (arith, whole))

-- the end of a range fits
pub end_fits : (r : ℕ) → 32 ≤ r → r < 464 → (r % 16 + 17) * 2 ^ (r / 16 - 1) % 2 ^ 64 ≡ (r % 16 + 17) * 2 ^ (r / 16 - 1)
end_fits r from to = shl_whole (r % 16 + 17) 6 (r / 16 - 1) 64 (omega arith) (omega arith)

-- the ranges below 32 have one time each
pub start_below_32 : (r : ℕ) → r < 32 → start_of (r + 1) ≡ r + 1
start_below_32 r small = elim (cases_lt r 15) [
  | inl smaller ↦ start_small (r + 1) (omega arith)
  | inr larger ↦ elim (cases_lt r 16) [
    | inl last ↦ let is : r ≡ 15 = omega arith in rw is refl
    | inr large ↦
        let next = start_after_large r large in
        let quotient : r / 16 - 1 ≡ 0 = omega arith in
        rw next (rw quotient (omega arith))
  ]
]
