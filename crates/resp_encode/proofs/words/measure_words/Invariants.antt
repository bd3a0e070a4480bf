use Rattle.std.proofs.Common.{map, take}
use Rattle.resp_value.specs.Data.{data_of_list}
use Rattle.resp_value.specs.Canonical.{AreValues}
use Rattle.resp_value.specs.declared.version.Version.TheVariants.{Two}
use Rattle.resp_encode.specs.Walks.Measures.{DescribesEach}
use Rattle.resp_value.specs.Words.{word_datum, texts_of}
use Rattle.resp_encode.proofs.words.measure_words.Given as goal

abbrev pub invariant-loop-word : goal.invariant-loop-word
invariant-loop-word l = record {
  found : DescribesEach Two (data_of_list (map word_datum (take l.word-index (texts_of l.words)))) l.found;
  are_values : AreValues (data_of_list (map word_datum (take l.word-index (texts_of l.words))));
}
