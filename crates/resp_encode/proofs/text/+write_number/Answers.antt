use Rattle.std.proofs.Common.{◌≡◌, ◌≤◌, ◌∷◌, [], ℕ, sym, ap, subst, arith}
use Rattle.resp_encode.specs.Walks.Writings.{Fills}
use Rattle.resp_encode.proofs.Decimals.{decimal-four_more, length-decimal-four_more}
use Rattle.resp_encode.proofs.Texts.{Writes-append, Writes-bytes}
use Rattle.resp_encode.proofs.text.+write_number.Goals as goal

-- four equal bytes
four : {a b c d a' b' c' d' : ℕ} → a ≡ a' → b ≡ b' → c ≡ c' → d ≡ d' → a ∷ b ∷ c ∷ d ∷ [] ≡ a' ∷ b' ∷ c' ∷ d' ∷ []
four e f g h = cc

pub write_number-requires : goal.write_number-requires
write_number-requires t c =
    let large : 10000 ≤ c.args.number = c.if-number-lt10000.false in
    (omega arith, omega (arith, c.requires, length-decimal-four_more c.args.number large (omega arith)))

pub extend_reserved-requires : goal.extend_reserved-requires
extend_reserved-requires t c =
    let large : 10000 ≤ c.args.number = c.if-number-lt10000.false in
    omega (arith, c.requires, c.write_number.ensures.spare, length-decimal-four_more c.args.number large (omega arith))

pub returns-else-number-lt10000 : goal.returns-else-number-lt10000
returns-else-number-lt10000 t c =
    let n = c.args.number in
    let digits = c.four_digits-thousands.ensures in
    let last = Writes-bytes c.extend_reserved.ensures.items c.extend_reserved.ensures.spare
    (four digits.thousands digits.hundreds digits.tens digits.ones) in
    subst (Fills c.args.out.now c.extend_reserved.new.self) (ap (λ digits. c.args.byte ∷ digits)
    (sym (decimal-four_more n c.if-number-lt10000.false (omega arith)))) (Writes-append c.write_number.ensures last)
