use Rattle.std.proofs.Common.{◌+◌, ◌*◌, length, map, take}
use Rattle.resp_value.specs.Data.{data_of_list, in_turn}
use Rattle.resp_value.specs.Trees.{texts}
use Rattle.resp_value.specs.Canonical.{canonical_text, canonical_trees}
use Rattle.resp_value.specs.Values.{datum_of, pair_data}
use Rattle.resp_encode.specs.Walks.Writings.{Fills}
use Rattle.resp_encode.proofs.text.+write.Given as goal

abbrev pub invariant-write_members-loop-member : goal.invariant-write_members-loop-member
invariant-write_members-loop-member l = Fills l.initial.out l.out
    (texts (canonical_trees l.version (data_of_list (map datum_of (take l.member-index l.members)))))

abbrev pub invariant-write_pairs-loop-pair : goal.invariant-write_pairs-loop-pair
invariant-write_pairs-loop-pair l = Fills l.initial.out l.out (texts
    (canonical_trees l.version (data_of_list (in_turn (map pair_data (take l.pair-index l.pairs))))))

-- each call has less text to write, or the same text in a narrower role
abbrev pub decreases-write_value : goal.decreases-write_value
decreases-write_value l = 2 * length (canonical_text l.version (datum_of l.value.now))

abbrev pub decreases-write_group : goal.decreases-write_group
decreases-write_group l = 2 * length (texts (canonical_trees l.version (data_of_list (map datum_of l.members.now)))) + 2

abbrev pub decreases-write_members : goal.decreases-write_members
decreases-write_members l = 2 * length (texts (canonical_trees l.version (data_of_list (map datum_of l.members.now)))) +
    1

abbrev pub decreases-write_pairs : goal.decreases-write_pairs
decreases-write_pairs l = 2 * length (texts (canonical_trees l.version
    (data_of_list (in_turn (map pair_data l.pairs.now))))) + 1

abbrev pub decreases-write_annotated : goal.decreases-write_annotated
decreases-write_annotated l = 2 * length (canonical_text l.version (datum_of l.value.now)) + 1
