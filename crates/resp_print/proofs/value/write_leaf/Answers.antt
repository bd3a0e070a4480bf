use Rattle.std.proofs.Common.{◌≡◌, ◌+◌}
use Rattle.resp_value.specs.Data.{depth}
use Rattle.resp_value.specs.Values.{datum_of}
use Rattle.resp_print.specs.Shown.{lines_within}
use Rattle.resp_print.proofs.Kept.{ok_carried}
use Rattle.resp_print.proofs.value.write_leaf.Goals as goal

pub returns : goal.returns
returns g c = λ is x rest for.
    let written = c.write_scalar.ensures is x rest for in (
      c.printed.ensures.prints _ _ _ _ (lines_within c.args.most c.args.level x) (c.args.level + depth (datum_of c.args.value.now)) written.0,
      ok_carried c.printed.result c.write_scalar.result (c.write_scalar.new.lengths.now ≡ rest) c.printed.ensures.ok written.1,
    )
