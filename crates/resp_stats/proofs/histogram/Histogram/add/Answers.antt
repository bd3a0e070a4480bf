use Rattle.std.proofs.Common.{arith, rules, min}
use Rattle.resp_stats.proofs.HistogramLemmas.{added}
use Rattle.resp_stats.proofs.histogram.Histogram.add.Goals as goal

pub returns : goal.returns
returns c = λ times has. added c.args.self.now c.range_of-range.result c.args.count (min c.args.micros 4294967295)
    c.saturating_add.result c.saturating_add-self.result times has (search rules)
    c.range_of-range.ensures.from_start c.range_of-range.ensures.before_next (omega arith)
    c.saturating_add.ensures c.saturating_add-self.ensures c.range_of-range.ensures.within
