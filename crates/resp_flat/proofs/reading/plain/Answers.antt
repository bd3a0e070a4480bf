use Rattle.std.proofs.Common.{◌+◌, ◌-◌, length, set, refl, arith}
use Rattle.std.proofs.lemmas.List.{length-set}
use Rattle.resp_value.specs.Rules.{rules_under}
use Rattle.resp_flat.specs.declared.reading.Filled.{Filled}
use Rattle.resp_flat.proofs.ValuesNotThere.{too_long}
use Rattle.resp_flat.proofs.ValuesRead.{leaf_forward, leaf_is_value, value_is_plain, value_lacks_nodes}
use Rattle.resp_flat.proofs.reading.plain.Goals as goal

pub aggregate_reply-requires : goal.aggregate_reply-requires
aggregate_reply-requires c = c.in_default.ensures.none 0

pub overflow_sub-leaf : goal.overflow_sub-leaf
overflow_sub-leaf c =
    let forward = leaf_forward (rules_under c.args.version c.args.limits.now) c.args.buffer.now c.args.filled.end c.in-Some.leaf.end c.in-Some.leaf.node
    c.in-Some.ensures.found in
    omega (arith, forward)

pub returns-then-leaf-filled-clause-no_reply : goal.returns-then-leaf-filled-clause-no_reply
returns-then-leaf-filled-clause-no_reply c is b =
    let r = rules_under c.args.version c.args.limits.now in
    let leaf = c.in-Some.leaf in
    let after : Filled = record { end = leaf.end; count = c.args.filled.count + 1 } in
    too_long r c.args.buffer.now c.args.filled after c.args.nodes.now (set c.args.nodes.now c.args.filled.count leaf.node)
    (omega (arith, c.if-leaf-filled.true, c.total.ensures.total))
    (leaf_is_value r 0 c.args.buffer.now c.args.filled leaf.end leaf.node c.args.nodes.now (length-set c.args.nodes.now c.args.filled.count leaf.node)
    c.in-Some.ensures.found) b

pub returns-then-filled-nodes-clause-no_nodes : goal.returns-then-filled-nodes-clause-no_nodes
returns-then-filled-nodes-clause-no_nodes c is =
    let r = rules_under c.args.version c.args.limits.now in
    let leaf = c.in-Some.leaf in
    let after : Filled = record { end = leaf.end; count = c.args.filled.count + 1 } in
    value_lacks_nodes r c.args.buffer.now c.args.filled after c.args.nodes.now (set c.args.nodes.now c.args.filled.count leaf.node)
    (length c.args.nodes.now - c.args.filled.count) (omega (arith, c.if-leaf-filled.false, c.total.ensures.total)) (omega (arith, c.if-filled-nodes.true))
    (leaf_is_value r 0 c.args.buffer.now c.args.filled leaf.end leaf.node c.args.nodes.now (length-set c.args.nodes.now c.args.filled.count leaf.node)
    c.in-Some.ensures.found)

pub returns-clause-reply : goal.returns-clause-reply
returns-clause-reply c =
    let r = rules_under c.args.version c.args.limits.now in
    let leaf = c.in-Some.leaf in
    let after : Filled = record { end = leaf.end; count = c.args.filled.count + 1 } in
    let same = length-set c.args.nodes.now c.args.filled.count leaf.node in
    value_is_plain r c.args.buffer.now c.args.filled.end c.args.filled.count c.args.filled.count after c.args.nodes.now
    (set c.args.nodes.now c.args.filled.count leaf.node) refl (omega (arith, c.if-leaf-filled.false, c.total.ensures.total))
    (omega (arith, same, c.if-filled-nodes.false))
    (leaf_is_value r 0 c.args.buffer.now c.args.filled leaf.end leaf.node c.args.nodes.now same c.in-Some.ensures.found)
