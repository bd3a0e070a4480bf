use Rattle.std.proofs.Common.{◌≡◌, ◌+◌, ◌<◌, arith}
use Rattle.std.specs.Vec.Iter.{into_iter_len}
use Rattle.resp_wire.proofs.end.add_values.Goals as goal

pub loop-value-smaller : goal.loop-value-smaller
loop-value-smaller c =
    let one_less : into_iter_len c.next.new.self + 1 ≡ into_iter_len c.loop-value.rest = c.in-Some.ensures.len in
    let less : into_iter_len c.next.new.self < into_iter_len c.loop-value.rest = omega (arith, one_less) in
    less
