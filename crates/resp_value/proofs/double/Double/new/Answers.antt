use Rattle.std.proofs.Common.{subst}
use Rattle.resp_value.specs.Doubles.{IsDouble}
use Rattle.resp_value.proofs.Doubles.{double_completes}
use Rattle.resp_value.proofs.double.Double.new.Goals as goal

pub invariant_of-result : goal.invariant_of-result
invariant_of-result c = record {
  is_double = double_completes c.args.bytes.items (subst IsDouble c.as_slice.ensures.value (c.is_double.ensures.0 c.if-is_double.true));
}
