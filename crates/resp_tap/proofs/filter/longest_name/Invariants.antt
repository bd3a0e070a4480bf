use Rattle.std.proofs.Common.{◌≡◌, ◌-◌, drop, length, max}
use Rattle.resp_tap.specs.Filters.{longest_name}
use Rattle.resp_tap.proofs.filter.longest_name.Given as goal

-- the longest of the names before this one, or of the rest, is the longest of all
abbrev pub invariant-loop-index : goal.invariant-loop-index
invariant-loop-index l = max l.longest (longest_name (drop l.index l.names)) ≡ longest_name l.names

abbrev pub decreases-loop-index : goal.decreases-loop-index
decreases-loop-index l = length l.names - l.index
