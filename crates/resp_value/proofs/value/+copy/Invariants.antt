use Rattle.std.proofs.Common.{◌≡◌, ◌++◌, map, drop}
use Rattle.resp_value.specs.Values.{datum_of, list_of, pairs_of, pair_data}
use Rattle.resp_value.proofs.value.+copy.Given as goal

abbrev pub invariant-copy_pairs-loop-pair : goal.invariant-copy_pairs-loop-pair
invariant-copy_pairs-loop-pair l = map pair_data l.copies.items ++ map pair_data (drop l.pair-index l.pair-items) ≡ map pair_data (pairs_of l.pairs)

abbrev pub invariant-copy_members-loop-member : goal.invariant-copy_members-loop-member
invariant-copy_members-loop-member l = map datum_of l.items.items ++ map datum_of (drop l.member-index l.member-items) ≡ map datum_of (list_of l.members)
