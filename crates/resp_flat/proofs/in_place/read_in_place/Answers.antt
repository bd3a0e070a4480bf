use Rattle.std.proofs.Common.{drop, arith, length-drop}
use Rattle.resp_value.specs.Rules.{rules_under}
use Rattle.resp_flat.proofs.PlacesRead.{none_left, one_place_more}
use Rattle.resp_flat.proofs.in_place.read_in_place.Goals as goal

pub loop-filled-preserved : goal.loop-filled-preserved
loop-filled-preserved c =
    one_place_more (rules_under c.args.version c.args.limits.now) c.args.buffer.now c.loop-filled.filled c.in-Ok.next c.loop-filled.nodes c.plain.new.nodes
    c.loop-filled.invariant c.in-Ok.ensures.reply

pub returns-clause-stopped : goal.returns-clause-stopped
returns-clause-stopped c =
    let left = length-drop c.loop-filled.filled.end c.args.buffer.now in
    none_left (rules_under c.args.version c.args.limits.now) c.are_in_range.ensures (drop c.loop-filled.filled.end c.args.buffer.now)
    (omega (arith, left, c.loop-filled-test.false))
