use Rattle.std.proofs.Common.{arith, ◌≡◌, ◌<◌, length}
use Rattle.resp_stats.specs.Times.{count_at_most}
use Rattle.resp_stats.proofs.HistogramLemmas.{near_range}
use Rattle.resp_stats.proofs.histogram.Histogram.percentile.Goals as goal

pub returns-clause-near : goal.returns-clause-near
returns-clause-near c = λ times has fits less apart.
    let before = c.range_at_place.ensures.before times has fits c.place_of.ensures.first in
    let fewer : count_at_most less times < c.place_of.result = near_range c.range_at_place.result c.end_of.result less c.place_of.result times c.end_of.ensures apart before in
    let number = has.number in let no_more = c.place_of.ensures.no_more in
    let whole : c.args.self.now.number ≡ length times = omega (arith, number, fits) in
    let bound = rw whole at no_more in
    omega (arith, fewer, bound)
