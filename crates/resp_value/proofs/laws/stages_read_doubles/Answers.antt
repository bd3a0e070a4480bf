use Rattle.resp_value.proofs.Doubles.{double_completes, completes_double}
use Rattle.resp_value.proofs.laws.stages_read_doubles.Goals as goal

pub returns : goal.returns
returns c = λ text. (double_completes text, completes_double text)
