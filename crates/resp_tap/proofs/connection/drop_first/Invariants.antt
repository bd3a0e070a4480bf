use Rattle.std.proofs.Common.{◌≡◌, drop}
use Rattle.resp_tap.proofs.connection.drop_first.Given as goal

-- what is left in the end stays the same
abbrev pub invariant-loop-left : goal.invariant-loop-left
invariant-loop-left g l = drop l.left l.kept.items ≡ drop l.count l.initial.kept.items

abbrev pub decreases-loop-left : goal.decreases-loop-left
decreases-loop-left g l = l.left
