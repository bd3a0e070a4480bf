use Rattle.resp_value.proofs.Doubles.{double_completes}
use Rattle.resp_value.proofs.double.Double.of_text.Goals as goal

pub invariant_of-result : goal.invariant_of-result
invariant_of-result c = record { is_double = double_completes c.args.bytes.items c.requires }
