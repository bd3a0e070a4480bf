use Rattle.std.proofs.Common.{◌≡◌, ℕ, ◌++◌, map}
use Rattle.std.specs.Vec.Iter.{into_iter_items, into_iter_len}
use Rattle.resp_value.specs.declared.value.Value.{Value}
use Rattle.resp_wire.proofs.end.add_values.Given as goal

abbrev pub invariant-loop-value : goal.invariant-loop-value
invariant-loop-value l = l.values.items ++ map (λ (r : ℕ × Value). r.1) (into_iter_items l.rest) ≡
    l.fn.values.items ++ map (λ (r : ℕ × Value). r.1) l.fn.replies.items

abbrev pub decreases-loop-value : goal.decreases-loop-value
decreases-loop-value l = into_iter_len l.rest
