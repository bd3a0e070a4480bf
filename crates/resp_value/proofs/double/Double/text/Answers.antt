use Rattle.std.proofs.Common.{subst, sym}
use Rattle.resp_value.specs.Bytes.{IsLine}
use Rattle.resp_value.specs.Doubles.{IsDouble}
use Rattle.resp_value.proofs.Doubles.{completes_double, double_is_line}
use Rattle.resp_value.proofs.double.Double.text.Goals as goal

pub returns-clause-is_double : goal.returns-clause-is_double
returns-clause-is_double c = subst IsDouble (sym c.as_slice.ensures.value) (completes_double c.args.self.now.text.items c.args.self.now.is_double)

pub returns-clause-is_line : goal.returns-clause-is_line
returns-clause-is_line c = subst IsLine (sym c.as_slice.ensures.value)
    (double_is_line c.args.self.now.text.items (completes_double c.args.self.now.text.items c.args.self.now.is_double))
