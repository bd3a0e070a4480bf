use Rattle.std.proofs.Common.{◌≡◌, ◌/◌, ◌≤◌, ◌∷◌, ◌++◌, [], ℕ, sym, ap, ◌∙◌, subst, arith, append_assoc}
use Rattle.resp_value.specs.Bytes.{crlf}
use Rattle.resp_value.specs.Numbers.{decimal}
use Rattle.resp_encode.specs.Walks.Writings.{Fills}
use Rattle.resp_encode.proofs.Decimals.{decimal-four_more, length-decimal-four_more}
use Rattle.resp_encode.proofs.Texts.{Writes-append, Writes-bytes}
use Rattle.resp_encode.proofs.text.write_longer_head.Goals as goal

-- four equal bytes before CR LF
four : {a b c d a' b' c' d' : ℕ} → a ≡ a' → b ≡ b' → c ≡ c' → d ≡ d' → a ∷ b ∷ c ∷ d ∷ crlf [] ≡ a' ∷ b' ∷ c' ∷ d' ∷
    crlf []
four e f g h = cc

pub write_front-requires : goal.write_front-requires
write_front-requires c =
    let large : 10000 ≤ c.args.number = c.requires.long in
    omega (arith, c.requires.room, length-decimal-four_more c.args.number large (omega arith))

pub extend_reserved-requires : goal.extend_reserved-requires
extend_reserved-requires c =
    let large : 10000 ≤ c.args.number = c.requires.long in
    omega (
      arith,
      c.requires.room,
      c.write_front.ensures.spare,
      length-decimal-four_more c.args.number large (omega arith),
    )

pub returns : goal.returns
returns c =
    let n = c.args.number in
    let digits = c.four_digits-thousands.ensures in
    let last = Writes-bytes c.extend_reserved.ensures.items c.extend_reserved.ensures.spare
    (four digits.thousands digits.hundreds digits.tens digits.ones) in
    subst (Fills c.args.out.now c.extend_reserved.new.self)
    (ap (λ digits. c.args.byte ∷ digits) (sym (append_assoc (decimal (n / 10000)) _ (crlf [])) ∙
    ap (λ digits. digits ++ crlf []) (sym (decimal-four_more n c.requires.long (omega arith)))))
    (Writes-append c.write_front.ensures last)
