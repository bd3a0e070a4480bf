use Rattle.std.proofs.Common.{ℕ, List, Result}
use Rattle.std.specs.Str.Parse.{ExplainsUnsignedError, HasUnsignedDigitsIfOk, ParsesUnsigned}
use Rattle.std.specs.declared.num.ParseIntError.{ParseIntError}
use Rattle.clap.specs.Words.{found_of}
use Rattle.resp_cli_args.proofs.AskingLemmas.{no_number_read, number_read}
use Rattle.resp_cli_args.proofs.options.number_of.Goals as goal

-- what `parse` gives of a number of 64 bits
abbrev Gives : List ℕ → Result ℕ ParseIntError → Type 0
Gives text r = ParsesUnsigned 64 10 text r × ExplainsUnsignedError 10 text r × HasUnsignedDigitsIfOk text r

pub returns-clause-some : goal.returns-clause-some
returns-clause-some c = number_read (found_of c.args.matches.now) _ Gives c.get_one.result (λ text r gives. gives.0)
    c.get_one.ensures.none c.get_one.ensures.value

pub returns-clause-none : goal.returns-clause-none
returns-clause-none c = no_number_read (found_of c.args.matches.now) _ Gives c.get_one.result (λ text r gives. gives.0)
    c.get_one.ensures.value
