use Rattle.std.proofs.Common.{◌≡◌, ap, refl, subst, sym}
use Rattle.resp_value.specs.Data.{Datum, aggregate, scalar}
use Rattle.resp_value.specs.Data as d
use Rattle.resp_value.specs.Values.{datum_of}
use Rattle.resp_print.specs.Kept.{ValueFor}
use Rattle.resp_print.specs.Printed.{IsScalar}
use Rattle.resp_print.specs.Shown.{indentation, lines_within, scalar_line_within}
use Rattle.resp_print.specs.Written.{WritesText}
use Rattle.resp_print.proofs.Kept.{scalar_for, when_err}
use Rattle.resp_print.proofs.WrittenLemmas.{writes_next, writes_part}
use Rattle.resp_print.proofs.value.write_scalar.Goals as goal

the_scalar : (x : Datum) → IsScalar x → (s : d.Scalar) × (x ≡ scalar s)
the_scalar (scalar s) is = (s, refl)
the_scalar (aggregate k xs) is = absurd is

pub returns-in_err-write_indentation : goal.returns-in_err-write_indentation
returns-in_err-write_indentation g c = λ is x rest for.
    let lengths = c.args.lengths.now.now in
    let (s, same) = the_scalar (datum_of c.args.value.now) is in
    let (w, whole, kept) = scalar_for c.args.most lengths s x rest (subst (λ z. ValueFor c.args.most lengths z x rest) same for) in
    let r = c.from_residual.result in (
      subst (WritesText _ _ _ _ r) (sym (ap (lines_within c.args.most c.args.level) whole))
          (writes_part r _ _ _ _ (indentation c.args.level) (scalar_line_within c.args.most w) c.from_residual.ensures.0 c.in_err-write_indentation.ensures),
      when_err r _ c.from_residual.ensures.0,
    )

pub returns : goal.returns
returns g c = λ is x rest for.
    let lengths = c.args.lengths.now.now in
    let (s, same) = the_scalar (datum_of c.args.value.now) is in
    let (w, whole, kept) = scalar_for c.args.most lengths s x rest (subst (λ z. ValueFor c.args.most lengths z x rest) same for) in
    let r = c.write_scalar_line.result in
    let printed = c.write_scalar_line.ensures s same w rest kept in (
      subst (WritesText _ _ _ _ r) (sym (ap (lines_within c.args.most c.args.level) whole))
          (writes_next r _ _ _ _ _ _ (indentation c.args.level) (scalar_line_within c.args.most w) c.in_ok-write_indentation.ensures printed.0),
      printed.1,
    )
