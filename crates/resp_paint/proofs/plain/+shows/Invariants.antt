use Rattle.std.proofs.Common.{length}
use Rattle.resp_paint.proofs.plain.+shows.Given as goal

abbrev pub decreases-shows : goal.decreases-shows
decreases-shows l = length l.painted.now
