use Rattle.std.proofs.Common.{[], ◌∷◌, ◌++◌, ◌∙◌, subst}
use Rattle.resp_value.proofs.StdDigits.{decimal-std}
use Rattle.resp_c.specs.Writes.{Writes}
use Rattle.resp_c.proofs.room.write_number.Goals as goal

pub returns : goal.returns
returns c =
    subst (λ digits. Writes c.args.room.now c.write_line.new.room (c.args.front.now ++ (digits ++ 13 ∷ 10 ∷ []))
    c.write_line.new.size c.write_line.result)
    (c.as_bytes-digits.ensures.value ∙ c.format.ensures.text ∙ decimal-std c.args.number c.ranges.number.fits)
    c.write_line.ensures
