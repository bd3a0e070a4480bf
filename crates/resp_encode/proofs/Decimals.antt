-- How many digits a number has.
use Rattle.std.proofs.Common.{◌≡◌, ℕ, ◌+◌, ◌/◌, ◌%◌, ◌^◌, ◌<◌, ◌≤◌, [], ◌∷◌, ◌++◌, length, sym, ap, ◌∙◌, arith, append_assoc, length-append}
use Rattle.std.proofs.lemmas.Fmt.{decimal_digit, decimal_step, length-decimal-le}
use Rattle.resp_value.proofs.StdDigits.{decimal-std}
use Rattle.resp_value.specs.Numbers.{decimal}

-- a number below ten has one digit
pub length-decimal-one : (n : ℕ) → n < 10 → length (decimal n) ≡ 1
length-decimal-one n small = ap length (sym (decimal-std n (omega arith)) ∙ decimal_digit n small)

-- another number has one digit more than its tenth
pub length-decimal-more : (n : ℕ) → 10 ≤ n → n < 2 ^ 64 → length (decimal n) ≡ length (decimal (n / 10)) + 1
length-decimal-more n large fits =
    let step : decimal n ≡ decimal (n / 10) ++ ((48 + n % 10) ∷ []) =
    sym (decimal-std n fits) ∙ decimal_step n large fits ∙
    ap (λ ds. ds ++ ((48 + n % 10) ∷ [])) (decimal-std (n / 10) (omega arith)) in
    ap length step ∙ length-append (decimal (n / 10)) ((48 + n % 10) ∷ [])

pub length-decimal-two : (n : ℕ) → 10 ≤ n → n < 100 → length (decimal n) ≡ 2
length-decimal-two n large small = omega (
  arith,
  length-decimal-more n large (omega arith),
  length-decimal-one (n / 10) (omega arith),
)

pub length-decimal-three : (n : ℕ) → 100 ≤ n → n < 1000 → length (decimal n) ≡ 3
length-decimal-three n large small = omega (
  arith,
  length-decimal-more n (omega arith) (omega arith),
  length-decimal-two (n / 10) (omega arith) (omega arith),
)

pub length-decimal-four : (n : ℕ) → 1000 ≤ n → n < 10000 → length (decimal n) ≡ 4
length-decimal-four n large small = omega (
  arith,
  length-decimal-more n (omega arith) (omega arith),
  length-decimal-three (n / 10) (omega arith) (omega arith),
)

-- a number from ten thousand on has four digits more than its ten-thousandth
pub length-decimal-four_more : (n : ℕ) → 10000 ≤ n → n < 2 ^ 64 → length (decimal n) ≡ length (decimal (n / 10000)) + 4
length-decimal-four_more n large fits =
    let e : n / 10 / 10 / 10 / 10 ≡ n / 10000 = omega arith in
    omega (
      arith,
      ap (λ m. length (decimal m)) e,
      length-decimal-more n (omega arith) fits,
      length-decimal-more (n / 10) (omega arith) (omega arith),
      length-decimal-more (n / 10 / 10) (omega arith) (omega arith),
      length-decimal-more (n / 10 / 10 / 10) (omega arith) (omega arith),
    )

pub length-decimal-few : (n : ℕ) → n < 2 ^ 64 → length (decimal n) ≤ 20
length-decimal-few n fits = omega (
  arith,
  ap length (decimal-std n fits),
  length-decimal-le 20 n (omega arith) (omega arith) fits,
)

-- the one digit of a number below ten, and the two of one below a hundred
pub decimal-one : (n : ℕ) → n < 10 → decimal n ≡ (48 + n) ∷ []
decimal-one n small = sym (decimal-std n (omega arith)) ∙ decimal_digit n small

pub decimal-two : (n : ℕ) → 10 ≤ n → n < 100 → decimal n ≡ (48 + n / 10) ∷ (48 + n % 10) ∷ []
decimal-two n large small =
    sym (decimal-std n (omega arith)) ∙ decimal_step n large (omega arith) ∙
    ap (λ digits. digits ++ ((48 + n % 10) ∷ [])) (decimal_digit (n / 10) (omega arith))

-- the last digit stands after the others
pub decimal-more : (n : ℕ) → 10 ≤ n → n < 2 ^ 64 → decimal n ≡ decimal (n / 10) ++ ((48 + n % 10) ∷ [])
decimal-more n large fits = sym (decimal-std n fits) ∙ decimal_step n large fits ∙
    ap (λ digits. digits ++ ((48 + n % 10) ∷ [])) (decimal-std (n / 10) (omega arith))

pub decimal-three : (n : ℕ) → 100 ≤ n → n < 1000 → decimal n ≡ (48 + n / 100) ∷ (48 + n / 10 % 10) ∷ (48 + n % 10) ∷ []
decimal-three n large small =
    let first : n / 10 / 10 ≡ n / 100 = omega arith in
    decimal-more n (omega arith) (omega arith)
    ∙ ap (λ digits. digits ++ ((48 + n % 10) ∷ [])) (decimal-two (n / 10) (omega arith) (omega arith))
    ∙ ap (λ digit. (48 + digit) ∷ (48 + n / 10 % 10) ∷ (48 + n % 10) ∷ []) first

pub decimal-four : (n : ℕ) → 1000 ≤ n → n < 10000 → decimal n ≡ (48 + n / 1000) ∷ (48 + n / 100 % 10) ∷
    (48 + n / 10 % 10) ∷ (48 + n % 10) ∷ []
decimal-four n large small =
    let first : n / 10 / 100 ≡ n / 1000 = omega arith in
    let second : n / 10 / 10 ≡ n / 100 = omega arith in
    decimal-more n (omega arith) (omega arith)
    ∙ ap (λ digits. digits ++ ((48 + n % 10) ∷ [])) (decimal-three (n / 10) (omega arith) (omega arith))
    ∙ ap (λ digit. (48 + digit) ∷ (48 + n / 10 / 10 % 10) ∷ (48 + n / 10 % 10) ∷ (48 + n % 10) ∷ []) first
    ∙ ap (λ m. (48 + n / 1000) ∷ (48 + m % 10) ∷ (48 + n / 10 % 10) ∷ (48 + n % 10) ∷ []) second

-- the last four digits stand after the others
pub decimal-four_more : (n : ℕ) → 10000 ≤ n → n < 2 ^ 64 → decimal n ≡ decimal (n / 10000) ++
    ((48 + n % 10000 / 1000) ∷ (48 + n % 10000 / 100 % 10) ∷ (48 + n % 10000 / 10 % 10) ∷ (48 + n % 10000 % 10) ∷ [])
decimal-four_more n large fits =
    let front = decimal (n / 10 / 10 / 10 / 10) in
    let others : n / 10 / 10 / 10 / 10 ≡ n / 10000 = omega arith in
    let first : n / 10 / 10 / 10 % 10 ≡ n % 10000 / 1000 = omega arith in
    let second : n / 10 / 10 % 10 ≡ n % 10000 / 100 % 10 = omega arith in
    let third : n / 10 % 10 ≡ n % 10000 / 10 % 10 = omega arith in
    let last : n % 10 ≡ n % 10000 % 10 = omega arith in
    decimal-more n (omega arith) fits
    ∙ ap (λ digits. digits ++ ((48 + n % 10) ∷ [])) (decimal-more (n / 10) (omega arith) (omega arith))
    ∙ append_assoc (decimal (n / 10 / 10)) ((48 + n / 10 % 10) ∷ []) ((48 + n % 10) ∷ [])
    ∙ ap (λ digits. digits ++ ((48 + n / 10 % 10) ∷ (48 + n % 10) ∷ []))
    (decimal-more (n / 10 / 10) (omega arith) (omega arith))
    ∙ append_assoc (decimal (n / 10 / 10 / 10)) ((48 + n / 10 / 10 % 10) ∷ []) ((48 + n / 10 % 10) ∷ (48 + n % 10) ∷ [])
    ∙ ap (λ digits. digits ++ ((48 + n / 10 / 10 % 10) ∷ (48 + n / 10 % 10) ∷ (48 + n % 10) ∷ []))
    (decimal-more (n / 10 / 10 / 10) (omega arith) (omega arith))
    ∙ append_assoc front ((48 + n / 10 / 10 / 10 % 10) ∷ []) ((48 + n / 10 / 10 % 10) ∷ (48 + n / 10 % 10) ∷
    (48 + n % 10) ∷ [])
    ∙ ap (λ m. decimal m ++ ((48 + n / 10 / 10 / 10 % 10) ∷ (48 + n / 10 / 10 % 10) ∷ (48 + n / 10 % 10) ∷
    (48 + n % 10) ∷ [])) others
    ∙ ap (λ a. decimal (n / 10000) ++ ((48 + a) ∷ (48 + n / 10 / 10 % 10) ∷ (48 + n / 10 % 10) ∷ (48 + n % 10) ∷ []))
    first
    ∙ ap (λ a. decimal (n / 10000) ++ ((48 + n % 10000 / 1000) ∷ (48 + a) ∷ (48 + n / 10 % 10) ∷ (48 + n % 10) ∷ []))
    second
    ∙ ap (λ a. decimal (n / 10000) ++ ((48 + n % 10000 / 1000) ∷ (48 + n % 10000 / 100 % 10) ∷ (48 + a) ∷
    (48 + n % 10) ∷ [])) third
    ∙ ap (λ a. decimal (n / 10000) ++ ((48 + n % 10000 / 1000) ∷ (48 + n % 10000 / 100 % 10) ∷
    (48 + n % 10000 / 10 % 10) ∷ (48 + a) ∷ [])) last
