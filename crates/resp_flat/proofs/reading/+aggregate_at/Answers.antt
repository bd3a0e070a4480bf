use Rattle.std.proofs.Common.{◌+◌, ◌-◌, set, take, refl, sym, ap, subst, ◌∙◌, arith}
use Rattle.std.proofs.lemmas.List.{length-set, take-set}
use Rattle.resp_value.specs.Kinds.{kind_of}
use Rattle.resp_value.specs.Rules.{rules_under}
use Rattle.resp_flat.specs.declared.reading.Filled.{Filled}
use Rattle.resp_flat.specs.Nodes.{aggregate_node}
use Rattle.resp_flat.specs.Numbers.{kind_form}
use Rattle.resp_flat.specs.Plain.{IsValueAt}
use Rattle.resp_flat.proofs.NoneThere.{none_if}
use Rattle.resp_flat.proofs.ValuesNotThere.{HasTrees, members_left, members_there, no_members, no_tree}
use Rattle.resp_flat.proofs.ValuesRead.{HasMembers, aggregate_is_value, head_forward, members_near, no_member, one_member_more, same_before, same_members}
use Rattle.resp_flat.proofs.reading.+aggregate_at.Goals as goal

pub loop-init : goal.loop-init
loop-init t c =
    let start : Filled = record { end = c.in_ok-head.head.end; count = c.args.filled.count + 1 } in
    record {
      members = no_member (rules_under c.args.version c.args.limits.now) (c.args.level + 1) c.args.buffer.now start c.args.nodes.now c.in_ok-head.ensures.found.within 0 refl;
      left = λ a. subst (λ n. HasTrees (rules_under c.args.version c.args.limits.now) (c.args.level + 1) c.args.buffer.now c.in_ok-head.head.end n) (omega arith)
          (members_there (rules_under c.args.version c.args.limits.now) c.args.level c.args.buffer.now c.args.filled.end c.in_ok-head.head.kind
          c.in_ok-head.head.members c.in_ok-head.head.end c.in_ok-head.ensures.found (c.args.level + 1) (omega arith) a);
      kept = refl;
    }

pub loop-preserved-in-Some : goal.loop-preserved-in-Some
loop-preserved-in-Some t c =
    let start : Filled = record { end = c.in_ok-head.head.end; count = c.args.filled.count + 1 } in
    let m = c.loop.invariant.members in
    let counted = m.counted in
    record {
      members = one_member_more (rules_under c.args.version c.args.limits.now) (c.args.level + 1) c.args.buffer.now start c.loop.inner c.in-Some.next
          c.args.nodes.now c.loop.nodes c.leaf_into.new.nodes c.loop.counter (c.loop.counter + 1) m (c.in-Some.ensures.value (c.args.level + 1))
          c.in-Some.ensures.same_room refl;
      left = λ a. members_left (rules_under c.args.version c.args.limits.now) (c.args.level + 1) c.args.buffer.now c.loop.inner c.in-Some.next c.loop.nodes
          c.leaf_into.new.nodes (c.in_ok-head.head.members - c.loop.counter) (c.in_ok-head.head.members - (c.loop.counter + 1)) (omega (arith, c.loop-test.true))
          (c.in-Some.ensures.value (c.args.level + 1)) (c.loop.invariant.left a);
      kept = same_before c.args.filled.count c.loop.inner.count c.leaf_into.new.nodes c.loop.nodes (omega (arith, counted)) c.in-Some.ensures.kept ∙
          c.loop.invariant.kept;
    }

pub loop-preserved : goal.loop-preserved
loop-preserved t c =
    let r = rules_under c.args.version c.args.limits.now in
    let start : Filled = record { end = c.in_ok-head.head.end; count = c.args.filled.count + 1 } in
    let counted = c.loop.invariant.members.counted in
    let m = same_members r (c.args.level + 1) c.args.buffer.now start c.loop.inner c.args.nodes.now c.loop.nodes c.leaf_into.new.nodes c.loop.counter
    c.loop.invariant.members c.in_default.ensures.kept c.in_default.ensures.same_room in
    record {
      members = one_member_more r (c.args.level + 1) c.args.buffer.now start c.loop.inner c.in_ok-inner.inner c.args.nodes.now c.leaf_into.new.nodes
          c.aggregate_at.new.nodes c.loop.counter (c.loop.counter + 1) m c.in_ok-inner.ensures.value c.in_ok-inner.ensures.same_room refl;
      left = λ a. members_left r (c.args.level + 1) c.args.buffer.now c.loop.inner c.in_ok-inner.inner c.leaf_into.new.nodes c.aggregate_at.new.nodes
          (c.in_ok-head.head.members - c.loop.counter) (c.in_ok-head.head.members - (c.loop.counter + 1)) (omega (arith, c.loop-test.true))
          c.in_ok-inner.ensures.value (c.loop.invariant.left a);
      kept = same_before c.args.filled.count c.loop.inner.count c.aggregate_at.new.nodes c.leaf_into.new.nodes (omega (arith, counted)) c.in_ok-inner.ensures.kept ∙
          same_before c.args.filled.count c.loop.inner.count c.leaf_into.new.nodes c.loop.nodes (omega (arith, counted)) c.in_default.ensures.kept ∙
          c.loop.invariant.kept;
    }

pub returns-in_err-inner-clause-kept : goal.returns-in_err-inner-clause-kept
returns-in_err-inner-clause-kept t c =
    let counted = c.loop.invariant.members.counted in
    same_before c.args.filled.count c.loop.inner.count c.aggregate_at.new.nodes c.leaf_into.new.nodes (omega (arith, counted)) c.in_err-inner.ensures.kept ∙
    same_before c.args.filled.count c.loop.inner.count c.leaf_into.new.nodes c.loop.nodes (omega (arith, counted)) c.in_default.ensures.kept ∙
    c.loop.invariant.kept

pub returns-clause-value : goal.returns-clause-value
returns-clause-value t c =
    let r = rules_under c.args.version c.args.limits.now in
    let start : Filled = record { end = c.in_ok-head.head.end; count = c.args.filled.count + 1 } in
    let kind = c.in_ok-head.head.kind in
    let members = c.in_ok-head.head.members in
    let size = c.saturating_sub-size.result in
    let all : HasMembers r (c.args.level + 1) c.args.buffer.now start c.loop.inner c.args.nodes.now c.loop.nodes members =
    subst (λ n. HasMembers r (c.args.level + 1) c.args.buffer.now start c.loop.inner c.args.nodes.now c.loop.nodes n)
    (omega (arith, c.loop-test.false, c.loop.auto.counter-end)) c.loop.invariant.members in
    subst (λ l. IsValueAt r c.args.level c.args.buffer.now c.args.filled c.loop.inner c.args.nodes.now l)
    (sym (c.put.ensures ∙ ap (set c.loop.nodes c.args.filled.count) (c.aggregate.ensures ∙ ap (λ f. aggregate_node f members size) c.form.ensures)))
    (aggregate_is_value r c.args.level c.args.buffer.now c.args.filled start c.loop.inner kind members c.args.nodes.now c.loop.nodes
    (omega (arith, c.if-level-ge-DEPTH.false)) c.in_ok-head.ensures.found refl
    all size c.saturating_sub-size.ensures
    (length-set c.loop.nodes c.args.filled.count (aggregate_node (kind_form (kind_of kind)) members size)))

pub returns-clause-kept : goal.returns-clause-kept
returns-clause-kept t c = ap (take c.args.filled.count) c.put.ensures ∙ take-set c.loop.nodes c.args.filled.count _ ∙ c.loop.invariant.kept

pub leaf_into-requires : goal.leaf_into-requires
leaf_into-requires t c =
    let r = rules_under c.args.version c.args.limits.now in
    let start : Filled = record { end = c.in_ok-head.head.end; count = c.args.filled.count + 1 } in
    let head = c.in_ok-head.ensures.found in
    let forward = head_forward r c.args.level c.args.buffer.now c.args.filled.end c.in_ok-head.head.kind c.in_ok-head.head.members c.in_ok-head.head.end head in
    let near = members_near r (c.args.level + 1) c.args.buffer.now start c.loop.inner c.args.nodes.now c.loop.nodes c.loop.counter c.loop.invariant.members head.within in
    let room = c.loop.invariant.members.same_room in
    omega (arith, forward, near, room, c.requires)

pub aggregate_at-requires : goal.aggregate_at-requires
aggregate_at-requires t c =
    let r = rules_under c.args.version c.args.limits.now in
    let start : Filled = record { end = c.in_ok-head.head.end; count = c.args.filled.count + 1 } in
    let head = c.in_ok-head.ensures.found in
    let forward = head_forward r c.args.level c.args.buffer.now c.args.filled.end c.in_ok-head.head.kind c.in_ok-head.head.members c.in_ok-head.head.end head in
    let near = members_near r (c.args.level + 1) c.args.buffer.now start c.loop.inner c.args.nodes.now c.loop.nodes c.loop.counter c.loop.invariant.members head.within in
    let room = c.loop.invariant.members.same_room in
    omega (arith, forward, near, room, c.requires, c.in_default.ensures.same_room)

pub returns-in_err-inner-clause-none : goal.returns-in_err-inner-clause-none
returns-in_err-inner-clause-none t c = none_if c.from_residual-in_err-inner.result _ (λ a.
    let r = rules_under c.args.version c.args.limits.now in
    no_members r (c.args.level + 1) c.args.buffer.now c.loop.inner.end (c.in_ok-head.head.members - c.loop.counter) (omega (arith, c.loop-test.true))
    (no_tree r (c.args.level + 1) c.args.buffer.now c.loop.inner.end (c.in_default.ensures.none (c.args.level + 1)) c.in_err-inner.ensures.none)
    (c.loop.invariant.left a))
