use Rattle.std.proofs.Common.{inl, [], refl}
use Rattle.resp_value.specs.Values.{datum_of}
use Rattle.resp_print.proofs.value.write_value.Goals as goal

pub returns : goal.returns
returns g c = (c.write_lines.ensures (datum_of c.args.value.now) [] (inl (refl, refl, refl))).0
