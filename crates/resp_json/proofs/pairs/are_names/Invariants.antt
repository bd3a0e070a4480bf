use Rattle.std.proofs.Common.{◌≡◌, length}
use Rattle.resp_json.specs.Json.{are_names}
use Rattle.resp_json.proofs.Names.{pair_keys}
use Rattle.resp_json.proofs.pairs.are_names.Given as goal

abbrev pub invariant-loop-pair : goal.invariant-loop-pair
invariant-loop-pair l = are_names (pair_keys l.pairs) ≡ are_names (pair_keys l.rest)

abbrev pub decreases-loop-pair : goal.decreases-loop-pair
decreases-loop-pair l = length l.rest
