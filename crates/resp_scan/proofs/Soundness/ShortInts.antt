-- An integer of few digits.
use Rattle.std.proofs.Common.{◌≡◌, ℕ, true, false, suc, ◌+◌, ◌-◌, ◌*◌, ◌^◌, ◌<◌, ◌≤◌, nat_le, List, length, drop, get_or, add-one, drop-cons, arith, refl, ap, ◌∷◌, ◌∙◌}
use Rattle.std.proofs.Math.Nat.{pow-le-pow_right, pow-suc}
use Rattle.std.proofs.lemmas.Bool.Decides.{nat_tests}
use Rattle.resp_scan.specs.Machine.Magnitudes.{greatest_magnitude}
use Rattle.resp_scan.specs.Machine.Moves.{is_digit}
use Rattle.resp_scan.specs.Machine.Room.{has_total_room}
use Rattle.resp_scan.specs.Machine.Scan.{scan}
use Rattle.resp_scan.specs.Machine.Tokens.{InInt, Place, at}

-- with one digit more a number of so many digits has one more
pub digit_more : (m d e : ℕ) → 2 ≤ e → m < 10 ^ (e - 1) → d ≤ 9 → m * 10 + d < 10 ^ (e + 1 - 1)
digit_more m d e some few digit =
    let next : e + 1 - 1 ≡ suc (e - 1) = omega (arith, some) in
    let power : 10 ^ (e + 1 - 1) ≡ 10 ^ (e - 1) * 10 = ap (λ n. 10 ^ n) next ∙ pow-suc 10 (e - 1) in
    omega (arith, power, few, digit)

-- and is in range where it has eleven digits at most
pub digit_fits : (m d e : ℕ) → 2 ≤ e → e < 12 → m < 10 ^ (e - 1) → d ≤ 9 → m * 10 + d < 10 ^ 11
digit_fits m d e some most few digit =
    let more = digit_more m d e some few digit in
    let size : e + 1 - 1 ≤ 11 = omega (arith, most) in
    let power : 10 ^ (e + 1 - 1) ≤ 10 ^ 11 = pow-le-pow_right (omega arith) size in
    omega (arith, more, power)

-- a digit more is scanned where the number is in range and total has room
pub digit_goes : (s : Place) (m e : ℕ) (p : List ℕ) → e < length p → 48 ≤ get_or p e 0 → get_or p e 0 ≤ 57 →
    m * 10 + (get_or p e 0 - 48) < 10 ^ 11 → has_total_room s (e + 1) 2 ≡ true →
    scan e (at s (InInt false m)) (drop e p) ≡ scan (e + 1) (at s (InInt false (m * 10 + (get_or p e 0 - 48)))) (drop (e + 1) p)
digit_goes s m e p within least most fits room =
    let b = get_or p e 0 in
    let next : drop e p ≡ b ∷ drop (e + 1) p = rw (add-one, drop-cons p e 0) refl in
    let digit : is_digit b ≡ true = grind (arith, nat_tests) in
    let range : nat_le (m * 10 + (b - 48)) (greatest_magnitude false) ≡ true = grind (arith, nat_tests) in
    ap (scan e (at s (InInt false m))) next ∙ simp (digit, range, room)
