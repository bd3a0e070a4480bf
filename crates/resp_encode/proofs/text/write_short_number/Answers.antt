use Rattle.std.proofs.Common.{◌≡◌, ◌/◌, ◌%◌, arith}
use Rattle.resp_encode.proofs.Decimals.{decimal-one, decimal-two, decimal-three, decimal-four, length-decimal-two, length-decimal-three, length-decimal-four}
use Rattle.resp_encode.proofs.Texts.{Writes-bytes}
use Rattle.resp_encode.proofs.text.write_short_number.Goals as goal

pub extend_reserved-requires-then-number-lt100 : goal.extend_reserved-requires-then-number-lt100
extend_reserved-requires-then-number-lt100 c = omega (
  arith,
  c.requires.room,
  length-decimal-two c.args.number (omega arith) (omega arith),
)

pub extend_reserved-requires-then-number-lt1000 : goal.extend_reserved-requires-then-number-lt1000
extend_reserved-requires-then-number-lt1000 c = omega (
  arith,
  c.requires.room,
  length-decimal-three c.args.number (omega arith) (omega arith),
)

pub extend_reserved-requires-else-number-lt1000 : goal.extend_reserved-requires-else-number-lt1000
extend_reserved-requires-else-number-lt1000 c = omega (
  arith,
  c.requires.room,
  length-decimal-four c.args.number (omega arith) (omega arith),
)

pub returns-then-number-lt10 : goal.returns-then-number-lt10
returns-then-number-lt10 c =
    let n = c.args.number in
    let whole = decimal-one n (omega arith) in
    let small : n % 10 ≡ n = omega arith in
    let digits = c.four_digits-thousands.ensures in
    Writes-bytes c.extend_reserved.ensures.items c.extend_reserved.ensures.spare cc

pub returns-then-number-lt100 : goal.returns-then-number-lt100
returns-then-number-lt100 c =
    let n = c.args.number in
    let whole = decimal-two n (omega arith) (omega arith) in
    let small : n / 10 % 10 ≡ n / 10 = omega arith in
    let digits = c.four_digits-thousands.ensures in
    Writes-bytes c.extend_reserved-then-number-lt100.ensures.items c.extend_reserved-then-number-lt100.ensures.spare cc

pub returns-then-number-lt1000 : goal.returns-then-number-lt1000
returns-then-number-lt1000 c =
    let n = c.args.number in
    let whole = decimal-three n (omega arith) (omega arith) in
    let small : n / 100 % 10 ≡ n / 100 = omega arith in
    let digits = c.four_digits-thousands.ensures in
    Writes-bytes c.extend_reserved-then-number-lt1000.ensures.items c.extend_reserved-then-number-lt1000.ensures.spare
    cc

pub returns-else-number-lt1000 : goal.returns-else-number-lt1000
returns-else-number-lt1000 c =
    let whole = decimal-four c.args.number (omega arith) (omega arith) in
    let digits = c.four_digits-thousands.ensures in
    Writes-bytes c.extend_reserved-else-number-lt1000.ensures.items c.extend_reserved-else-number-lt1000.ensures.spare
    cc
