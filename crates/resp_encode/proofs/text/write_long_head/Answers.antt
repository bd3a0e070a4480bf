use Rattle.std.proofs.Common.{◌≡◌, ◌/◌, ◌%◌, ◌∷◌, ◌++◌, [], ap, arith}
use Rattle.resp_value.specs.Bytes.{crlf}
use Rattle.resp_encode.proofs.Decimals.{decimal-three, decimal-four, length-decimal-three, length-decimal-four}
use Rattle.resp_encode.proofs.Texts.{Writes-bytes}
use Rattle.resp_encode.proofs.text.write_long_head.Goals as goal

pub extend_reserved-requires : goal.extend_reserved-requires
extend_reserved-requires c = omega (
  arith,
  c.requires.room,
  length-decimal-three c.args.number (omega arith) (omega arith),
)

pub extend_reserved-requires-then-number-lt10000 : goal.extend_reserved-requires-then-number-lt10000
extend_reserved-requires-then-number-lt10000 c = omega (
  arith,
  c.requires.room,
  length-decimal-four c.args.number (omega arith) (omega arith),
)

pub returns-then-number-lt1000 : goal.returns-then-number-lt1000
returns-then-number-lt1000 c =
    let n = c.args.number in
    let whole = decimal-three n (omega arith) (omega arith) in
    let small : n / 100 % 10 ≡ n / 100 = omega arith in
    let digits = c.four_digits-hundreds.ensures in
    let same = ap (λ digits. c.args.byte ∷ digits ++ crlf []) whole in
    Writes-bytes c.extend_reserved.ensures.items c.extend_reserved.ensures.spare cc

pub returns-then-number-lt10000 : goal.returns-then-number-lt10000
returns-then-number-lt10000 c =
    let whole = decimal-four c.args.number (omega arith) (omega arith) in
    let same = ap (λ digits. c.args.byte ∷ digits ++ crlf []) whole in
    let digits = c.four_digits-thousands.ensures in
    Writes-bytes c.extend_reserved-then-number-lt10000.ensures.items c.extend_reserved-then-number-lt10000.ensures.spare
    cc
