use Rattle.std.proofs.Common.{◌∷◌, ◌++◌, [], sym, ap, arith}
use Rattle.resp_value.specs.Bytes.{crlf}
use Rattle.resp_encode.proofs.Decimals.{decimal-one, decimal-two, length-decimal-two}
use Rattle.resp_encode.proofs.Texts.{Writes-bytes}
use Rattle.resp_encode.proofs.text.write_head.Goals as goal

pub extend_reserved-requires-then-number-lt100 : goal.extend_reserved-requires-then-number-lt100
extend_reserved-requires-then-number-lt100 c = omega (
  arith,
  c.requires,
  length-decimal-two c.args.number (omega arith) (omega arith),
)

pub returns-then-number-lt10 : goal.returns-then-number-lt10
returns-then-number-lt10 c = Writes-bytes c.extend_reserved.ensures.items c.extend_reserved.ensures.spare
    (ap (λ digits. c.args.byte ∷ digits ++ crlf []) (sym (decimal-one c.args.number (omega arith))))

pub returns-then-number-lt100 : goal.returns-then-number-lt100
returns-then-number-lt100 c =
    let digits = c.two_digits-tens.ensures in
    let same = ap (λ digits. c.args.byte ∷ digits ++ crlf []) (decimal-two c.args.number (omega arith) (omega arith)) in
    Writes-bytes c.extend_reserved-then-number-lt100.ensures.items c.extend_reserved-then-number-lt100.ensures.spare cc
