use Rattle.std.proofs.Common.{◌≡◌, ◌-◌, drop, length}
use Rattle.std.specs.List.{list_any}
use Rattle.resp_tap.specs.Filters.{same_name}
use Rattle.resp_tap.proofs.filter.is_among.Given as goal

-- the name is among all names as far as it is among the rest
abbrev pub invariant-loop-index : goal.invariant-loop-index
invariant-loop-index l =
    list_any (λ other. same_name l.name other.items) l.names ≡ list_any (λ other. same_name l.name other.items) (drop l.index l.names)

abbrev pub decreases-loop-index : goal.decreases-loop-index
decreases-loop-index l = length l.names - l.index
