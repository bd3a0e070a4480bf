use Rattle.std.proofs.Common.{length}
use Rattle.resp_paint.proofs.plain.+after_sequence.Given as goal

abbrev pub decreases-after_sequence : goal.decreases-after_sequence
decreases-after_sequence l = length l.text.now
