use Rattle.std.proofs.Common.{◌-◌, length, arith}
use Rattle.resp_value.specs.Rules.{rules_under}
use Rattle.resp_flat.specs.declared.reading.Filled.{Filled}
use Rattle.resp_flat.proofs.ValuesNotThere.{no_tree, too_long, tree_there}
use Rattle.resp_flat.proofs.ValuesRead.{value_has_node, value_is_plain, value_lacks_nodes, value_size}
use Rattle.resp_flat.proofs.reading.aggregate_reply.Goals as goal

pub returns-in_default-clause-no_reply : goal.returns-in_default-clause-no_reply
returns-in_default-clause-no_reply c is b =
    no_tree (rules_under c.args.version c.args.limits.now) 0 c.args.buffer.now c.args.filled.end c.requires c.in_default.ensures.none
    (tree_there (rules_under c.args.version c.args.limits.now) c.args.buffer.now c.args.filled.end b)

pub returns-then-found-filled-clause-no_reply : goal.returns-then-found-filled-clause-no_reply
returns-then-found-filled-clause-no_reply c is b =
    let before : Filled = record { end = c.args.filled.end; count = c.min.result } in
    too_long (rules_under c.args.version c.args.limits.now) c.args.buffer.now before c.in-Some.found c.args.nodes.now c.aggregate_at.new.nodes
    (omega (arith, c.if-found-filled.true, c.total.ensures.total)) c.in-Some.ensures.value b

pub returns-then-found-nodes-clause-no_nodes : goal.returns-then-found-nodes-clause-no_nodes
returns-then-found-nodes-clause-no_nodes c is =
    let before : Filled = record { end = c.args.filled.end; count = c.min.result } in
    value_lacks_nodes (rules_under c.args.version c.args.limits.now) c.args.buffer.now before c.in-Some.found c.args.nodes.now c.aggregate_at.new.nodes
    (length c.aggregate_at.new.nodes - c.args.filled.count)
    (omega (arith, c.if-found-filled.false, c.total.ensures.total))
    (let same = c.in-Some.ensures.same_room in let counted = c.in-Some.ensures.value.counted in
    omega (arith, c.min.ensures, c.if-found-nodes.true, same, counted)) c.in-Some.ensures.value

pub returns-clause-reply : goal.returns-clause-reply
returns-clause-reply c =
    let value = c.in-Some.ensures.value in
    let same = c.in-Some.ensures.same_room in
    value_is_plain (rules_under c.args.version c.args.limits.now) c.args.buffer.now c.args.filled.end c.args.filled.count c.min.result c.in-Some.found
    c.args.nodes.now c.aggregate_at.new.nodes (let some = value_has_node (rules_under c.args.version c.args.limits.now) c.args.buffer.now (record { end = c.args.filled.end; count = c.min.result }) c.in-Some.found
    c.args.nodes.now c.aggregate_at.new.nodes value in omega (arith, c.min.ensures, some, same, c.if-found-nodes.false))
    (omega (arith, c.if-found-filled.false, c.total.ensures.total)) (omega (arith, c.if-found-nodes.false)) value

pub overflow_sub-found : goal.overflow_sub-found
overflow_sub-found c =
    let before : Filled = record { end = c.args.filled.end; count = c.min.result } in
    let (size, forward) = value_size (rules_under c.args.version c.args.limits.now) c.args.buffer.now before c.in-Some.found c.args.nodes.now
    c.aggregate_at.new.nodes c.in-Some.ensures.value in
    omega (arith, forward)
