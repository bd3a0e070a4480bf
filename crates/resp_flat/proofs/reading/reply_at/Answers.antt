use Rattle.std.proofs.Common.{◌-◌, ◌<◌, sym, subst, arith}
use Rattle.resp_value.specs.Rules.{rules_under}
use Rattle.resp_flat.proofs.NoneThere.{none_if}
use Rattle.resp_flat.proofs.ValuesNotThere.{no_tree, too_long, tree_there}
use Rattle.resp_flat.proofs.ValuesRead.{value_size}
use Rattle.resp_flat.proofs.reading.reply_at.Goals as goal
use Rattle.resp_flat.proofs.reading.reply_at.Goals.{in-Some, in-None+in_ok-found-in-None}

pub returns-in_err-found-in-None-clause-none : goal.returns-in_err-found-in-None-clause-none
returns-in_err-found-in-None-clause-none c =
    let r = rules_under c.args.version c.args.limits.now in
    let there = no_tree r 0 c.args.buffer.now c.args.filled.end (c.in-None.ensures.none 0) c.in_err-found-in-None.ensures.none in
    none_if c.from_residual.result _ (λ b. there (tree_there r c.args.buffer.now c.args.filled.end b))

pub overflow_sub-found : goal.overflow_sub-found
overflow_sub-found c =
    let r = rules_under c.args.version c.args.limits.now in
    let before = c.args.filled in
    let forward : before.end < c.match-leaf_into.found.end =
    elim c.match-leaf_into.branch [
      | in-Some w ↦ subst (λ f. before.end < f.end) (sym w.found-is) (value_size r c.args.buffer.now before w.in-Some.found _ _ (w.in-Some.ensures.value 0)).1
      | in-None+in_ok-found-in-None w ↦ subst (λ f. before.end < f.end) (sym w.found-is) (value_size r c.args.buffer.now before w.in_ok-found-in-None.found _ _
          w.in_ok-found-in-None.ensures.value).1
    ] in
    omega (arith, forward)

pub returns-then-found-filled-clause-none : goal.returns-then-found-filled-clause-none
returns-then-found-filled-clause-none c b =
    let r = rules_under c.args.version c.args.limits.now in
    let before = c.args.filled in
    let long : r.limits.total < c.match-leaf_into.found.end - before.end = omega (arith, c.if-found-filled.true, c.total.ensures.total) in
    elim c.match-leaf_into.branch [
      | in-Some w ↦ too_long r c.args.buffer.now before w.in-Some.found _ _ (subst (λ f. r.limits.total < f.end - before.end) w.found-is long)
          (w.in-Some.ensures.value 0) b
      | in-None+in_ok-found-in-None w ↦ too_long r c.args.buffer.now before w.in_ok-found-in-None.found _ _
          (subst (λ f. r.limits.total < f.end - before.end) w.found-is long) w.in_ok-found-in-None.ensures.value b
    ]

pub returns-clause-fits : goal.returns-clause-fits
returns-clause-fits c =
    let r = rules_under c.args.version c.args.limits.now in
    let before = c.args.filled in
    let forward : before.end < c.match-leaf_into.found.end =
    elim c.match-leaf_into.branch [
      | in-Some w ↦ subst (λ f. before.end < f.end) (sym w.found-is) (value_size r c.args.buffer.now before w.in-Some.found _ _ (w.in-Some.ensures.value 0)).1
      | in-None+in_ok-found-in-None w ↦ subst (λ f. before.end < f.end) (sym w.found-is) (value_size r c.args.buffer.now before w.in_ok-found-in-None.found _ _
          w.in_ok-found-in-None.ensures.value).1
    ] in
    (forward, omega (arith, c.if-found-filled.false, c.total.ensures.total))
