use Rattle.std.proofs.Common.{◌-◌, length}
use Rattle.resp_value.specs.Rules.{rules_under}
use Rattle.resp_flat.proofs.PlacesRead.{ReadsPlaces}
use Rattle.resp_flat.proofs.in_place.read_in_place.Given as goal

abbrev pub invariant-loop-filled : goal.invariant-loop-filled
invariant-loop-filled l = ReadsPlaces (rules_under l.fn.version l.fn.limits) l.fn.buffer l.filled l.nodes

abbrev pub decreases-loop-filled : goal.decreases-loop-filled
decreases-loop-filled l = length l.fn.buffer - l.filled.end
