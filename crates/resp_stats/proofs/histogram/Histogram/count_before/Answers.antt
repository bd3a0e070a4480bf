use Rattle.std.proofs.Common.{arith, ◌∙◌}
use Rattle.resp_stats.proofs.HistogramLemmas.{counted_more, counted_none}
use Rattle.resp_stats.proofs.histogram.Histogram.count_before.Goals as goal

pub loop-range-init : goal.loop-range-init
loop-range-init c = λ times has fits. counted_none times

pub loop-range-preserved : goal.loop-range-preserved
loop-range-preserved c = λ times has fits. c.saturating_add-count.ensures ∙
    counted_more c.args.self.now c.loop-range.range c.loop-range.count times has fits (omega arith)
    (c.loop-range.invariant times has fits)
