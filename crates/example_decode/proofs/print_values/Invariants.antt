use Rattle.std.proofs.Common.{length}
use Rattle.example_decode.proofs.print_values.Given as goal

abbrev pub decreases-loop-rest : goal.decreases-loop-rest
decreases-loop-rest g l = length l.rest
