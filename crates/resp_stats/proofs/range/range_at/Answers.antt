use Rattle.std.proofs.Common.{arith}
use Rattle.std.proofs.lemmas.Nat.{one_shl}
use Rattle.resp_stats.proofs.RangeLemmas.{large_power, small_power}
use Rattle.resp_stats.proofs.range.range_at.Goals as goal

pub returns-then-power-lt4-clause-begins : goal.returns-then-power-lt4-clause-begins
returns-then-power-lt4-clause-begins c =
    let shifted = one_shl c.args.power 64 (omega arith) in
    rw shifted (small_power c.args.power c.if-power-lt4.true)

pub returns-clause-begins : goal.returns-clause-begins
returns-clause-begins c = large_power c.args.power c.if-power-lt4.false
