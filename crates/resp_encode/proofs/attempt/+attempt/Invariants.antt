use Rattle.std.proofs.Common.{map, take}
use Rattle.resp_value.specs.Data.{data_of_list, in_turn}
use Rattle.resp_value.specs.Trees.{texts}
use Rattle.resp_value.specs.Canonical.{canonical_trees}
use Rattle.resp_value.specs.Values.{datum_of, pair_data}
use Rattle.resp_encode.specs.Walks.Attempts.{SuitEach}
use Rattle.resp_encode.specs.Walks.Writings.{Fills}
use Rattle.resp_encode.proofs.attempt.+attempt.Given as goal

abbrev pub invariant-attempt_members-loop-member : goal.invariant-attempt_members-loop-member
invariant-attempt_members-loop-member l = record {
  whole : Fills l.initial.out l.out (texts (canonical_trees l.version
      (data_of_list (map datum_of (take l.member-index l.members)))));
  suits : SuitEach l.version l.limits l.deeper (data_of_list (map datum_of (take l.member-index l.members)));
}

abbrev pub invariant-attempt_pairs-loop-pair : goal.invariant-attempt_pairs-loop-pair
invariant-attempt_pairs-loop-pair l = record {
  whole : Fills l.initial.out l.out (texts (canonical_trees l.version
      (data_of_list (in_turn (map pair_data (take l.pair-index l.pairs))))));
  suits : SuitEach l.version l.limits l.deeper (data_of_list (in_turn (map pair_data (take l.pair-index l.pairs))));
}
