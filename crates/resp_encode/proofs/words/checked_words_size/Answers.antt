use Rattle.std.proofs.Common.{map, sym}
use Rattle.resp_value.specs.Data.{data_of_list}
use Rattle.resp_value.specs.declared.version.Version.TheVariants.{Two}
use Rattle.resp_encode.specs.Walks.Measures.{Describes}
use Rattle.resp_value.specs.Words.{command_of, word_datum, texts_of}
use Rattle.resp_encode.proofs.Counts.{count-words}
use Rattle.resp_encode.proofs.words.checked_words_size.Goals as goal
use Rattle.resp_encode.proofs.words.checked_words_size.Goals.{After-inside-found}

-- what was found describes the command
described : (c : After-inside-found) → Describes Two (command_of (texts_of c.args.words.now)) c.inside-found.result
described c = c.inside-found.ensures Two (data_of_list (map word_datum (texts_of c.args.words.now)))
    c.measure_words.ensures.found
    (sym (count-words c.args.words.now))

pub returns-clause-verdict : goal.returns-clause-verdict
returns-clause-verdict c = c.checked_size.ensures.verdict _
    (described (goal.at.returns-clause-verdict c).After-inside-found)
    (tt, c.measure_words.ensures.are_values)

pub returns-clause-size : goal.returns-clause-size
returns-clause-size c = c.checked_size.ensures.size _ (described (goal.at.returns-clause-size c).After-inside-found)
