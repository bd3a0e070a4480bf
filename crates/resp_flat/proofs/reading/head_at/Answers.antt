use Rattle.std.proofs.Common.{arith}
use Rattle.resp_value.specs.Rules.{rules_under, PushAtTop, WithinDepth}
use Rattle.resp_flat.proofs.NoneThere.{none_if}
use Rattle.resp_flat.proofs.ValuesNotThere.{array_there, bytes_there, counted_aggregate, few_items, head_there, kind_there}
use Rattle.resp_flat.proofs.reading.head_at.Goals as goal
use Rattle.resp_flat.proofs.reading.head_at.Goals.{then-at-buffer-via-then-at-buffer, then-at-buffer-via-else-at-buffer+then-level-depth}

pub returns-then-at-buffer-clause-none : goal.returns-then-at-buffer-clause-none
returns-then-at-buffer-clause-none c a =
    let r = rules_under c.args.version c.args.limits.now in
    let d = counted_aggregate r c.args.level c.args.buffer.now c.args.at a in
    let some = bytes_there r c.args.level c.args.buffer.now c.args.at d in
    let within = d.node_keeps WithinDepth (omega arith) in
    elim c.then-at-buffer.branch [
      | then-at-buffer-via-then-at-buffer w ↦ omega (arith, some, w.if-at-buffer.true)
      | then-at-buffer-via-else-at-buffer+then-level-depth w ↦ omega (arith, within, w.if-level-depth.true, w.depth.ensures.depth)
    ]

pub returns-in_err-kind-clause-none : goal.returns-in_err-kind-clause-none
returns-in_err-kind-clause-none c = none_if c.from_residual.result _ (λ a.
    let r = rules_under c.args.version c.args.limits.now in
    let d = counted_aggregate r c.args.level c.args.buffer.now c.args.at a in
    c.in_err-kind.ensures.none d.kind (kind_there r c.args.level c.args.buffer.now c.args.at d) (array_there r c.args.level c.args.buffer.now c.args.at d)
    (d.node_keeps PushAtTop (omega arith)))

pub returns-in_err-found-clause-none : goal.returns-in_err-found-clause-none
returns-in_err-found-clause-none c = none_if c.from_residual-in_err-found.result _ (λ a.
    let r = rules_under c.args.version c.args.limits.now in
    let d = counted_aggregate r c.args.level c.args.buffer.now c.args.at a in
    let few = few_items r c.args.level c.args.buffer.now c.args.at d in
    c.in_err-found.ensures.none _ _ (omega (arith, few, c.items.ensures.items)) (head_there r c.args.level c.args.buffer.now c.args.at d))
