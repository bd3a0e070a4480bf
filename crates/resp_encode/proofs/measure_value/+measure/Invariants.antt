use Rattle.std.proofs.Common.{map, take}
use Rattle.resp_value.specs.Data.{data_of_list, in_turn}
use Rattle.resp_value.specs.Values.{datum_of, pair_data}
use Rattle.resp_value.specs.Canonical.{AreValues}
use Rattle.resp_encode.specs.Walks.Measures.{DescribesEach}
use Rattle.resp_encode.proofs.measure_value.+measure.Given as goal

abbrev pub invariant-measure_members-loop-member : goal.invariant-measure_members-loop-member
invariant-measure_members-loop-member l = record {
  found : DescribesEach l.version (data_of_list (map datum_of (take l.member-index l.members))) l.found;
  are_values : AreValues (data_of_list (map datum_of (take l.member-index l.members)));
}

abbrev pub invariant-measure_pairs-loop-pair : goal.invariant-measure_pairs-loop-pair
invariant-measure_pairs-loop-pair l = record {
  found : DescribesEach l.version (data_of_list (in_turn (map pair_data (take l.pair-index l.pairs)))) l.found;
  are_values : AreValues (data_of_list (in_turn (map pair_data (take l.pair-index l.pairs))));
}
