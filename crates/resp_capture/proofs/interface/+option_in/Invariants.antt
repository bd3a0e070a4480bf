use Rattle.std.proofs.Common.{length}
use Rattle.resp_capture.proofs.interface.+option_in.Given as goal

abbrev pub decreases-option_in : goal.decreases-option_in
decreases-option_in l = length l.options.now
