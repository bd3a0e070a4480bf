use Rattle.std.proofs.Common.{map, take}
use Rattle.resp_value.specs.Data.{data_of_list}
use Rattle.resp_value.specs.Trees.{texts}
use Rattle.resp_value.specs.Canonical.{canonical_trees}
use Rattle.resp_value.specs.declared.version.Version.TheVariants.{Two}
use Rattle.resp_value.specs.Words.{word_datum, texts_of}
use Rattle.resp_encode.specs.Walks.Writings.{Fills}
use Rattle.resp_encode.proofs.words.write_each.Given as goal

abbrev pub invariant-loop-word : goal.invariant-loop-word
invariant-loop-word l = Fills l.initial.out l.out
    (texts (canonical_trees Two (data_of_list (map word_datum (take l.word-index (texts_of l.words))))))
