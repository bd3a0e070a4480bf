use Rattle.std.proofs.Common.{ℕ, List, map, take}
use Rattle.resp_value.specs.Data.{data_of_list}
use Rattle.resp_value.specs.declared.version.Version.TheVariants.{Two}
use Rattle.resp_value.specs.Words.{word_datum}
use Rattle.resp_encode.specs.Lengths.{HaveLengths}
use Rattle.resp_encode.specs.Walks.Measures.{DescribesEach}
use Rattle.resp_encode.proofs.words.measure_lengths.Given as goal

abbrev pub invariant-loop-counted : goal.invariant-loop-counted
invariant-loop-counted l = (words : List (List ℕ)) → HaveLengths words l.lengths →
    DescribesEach Two (data_of_list (map word_datum (take l.counted-index words))) l.found
