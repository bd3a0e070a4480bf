use Rattle.std.proofs.Common.{ℕ, List, Err, ap}
use Rattle.resp_value.specs.declared.version.Version.TheVariants.{Two}
use Rattle.resp_value.specs.Words.{command_of}
use Rattle.resp_encode.specs.Lengths.{HaveLengths}
use Rattle.resp_encode.specs.Walks.Measures.{Describes}
use Rattle.resp_value.proofs.CommandValues.{command_is_value}
use Rattle.resp_encode.proofs.Commands.{describes_command, limit_of_fault}
use Rattle.resp_encode.proofs.words.words_size.Goals as goal
use Rattle.resp_encode.proofs.words.words_size.Goals.{After-inside-found}

-- what was found describes the command
described : (c : After-inside-found) (words : List (List ℕ)) → HaveLengths words c.args.lengths.now →
    Describes Two (command_of words) c.inside-found.result
described c = describes_command c.args.lengths.now c.measure_lengths.result c.inside-found.result c.measure_lengths.ensures
    c.inside-found.ensures

pub returns-in-Ok-clause-fits : goal.returns-in-Ok-clause-fits
returns-in-Ok-clause-fits c = λ words have. (c.in-Ok.ensures.verdict (command_of words)
    (described (goal.at.returns-in-Ok-clause-fits c).After-inside-found words have) (command_is_value words have.are_bytes)).fits

pub returns-in-Ok-clause-size : goal.returns-in-Ok-clause-size
returns-in-Ok-clause-size c = λ words have. c.in-Ok.ensures.size (command_of words)
    (described (goal.at.returns-in-Ok-clause-size c).After-inside-found words have)

pub returns-in-Err-clause-first_limit : goal.returns-in-Err-clause-first_limit
returns-in-Err-clause-first_limit c = λ words have. limit_of_fault c.args.limits.now words c.in-Err.error c.limit_of.result
    (c.in-Err.ensures.verdict (command_of words)
    (described (goal.at.returns-in-Err-clause-first_limit c).After-inside-found words have)
    (command_is_value words have.are_bytes)).first_fault
    (λ same. c.in-Err.ensures.not_memory (ap Err same)) c.limit_of.ensures
