use Rattle.std.proofs.Common.{arith, ◌-◌, ◌/◌}
use Rattle.std.proofs.lemmas.Nat.{pow_pos}
use Rattle.resp_stats.proofs.RangeLemmas.{end_fits, start_after_large, start_below_32}
use Rattle.resp_stats.proofs.range.end_of.Goals as goal

pub returns-then-range-lt32 : goal.returns-then-range-lt32
returns-then-range-lt32 c = omega (arith, start_below_32 c.args.range c.if-range-lt32.true)

pub returns : goal.returns
returns c =
    let fits = end_fits c.args.range c.if-range-lt32.false c.requires in
    let next = start_after_large c.args.range (omega arith) in
    let some = pow_pos (c.args.range / 16 - 1) in
    rw (fits, next) (omega (arith, some))
