use Rattle.std.proofs.Common.{arith, ◌∙◌}
use Rattle.resp_stats.proofs.HistogramLemmas.{counted_all, counted_more, counted_none}
use Rattle.resp_stats.proofs.histogram.Histogram.range_at_place.Goals as goal

pub loop-range-init : goal.loop-range-init
loop-range-init c = ((λ times has fits. counted_none times), (λ some. some))

pub loop-range-preserved : goal.loop-range-preserved
loop-range-preserved c = (
  (λ times has fits. c.saturating_add-count.ensures ∙
      counted_more c.args.self.now c.loop-range.range c.loop-range.count times has fits (omega arith)
      (c.loop-range.invariant.0 times has fits)),
  (λ some. omega arith),
)

pub returns-then-place-count-clause-reached : goal.returns-then-place-count-clause-reached
returns-then-place-count-clause-reached c = λ times has fits within.
    let sum = c.saturating_add-count.ensures ∙ counted_more c.args.self.now c.loop-range.range c.loop-range.count times has fits (omega arith)
    (c.loop-range.invariant.0 times has fits) in omega (arith, sum)

pub returns-then-place-count-clause-before : goal.returns-then-place-count-clause-before
returns-then-place-count-clause-before c = λ times has fits some.
    let sum = c.loop-range.invariant.0 times has fits in let less = c.loop-range.invariant.1 some in omega (arith, sum, less)

pub returns-clause-reached : goal.returns-clause-reached
returns-clause-reached c = λ times has fits within. let all = counted_all c.args.self.now times has in omega (arith, all, within)
