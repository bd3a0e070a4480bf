use Rattle.std.proofs.Common.{Bool}
use Rattle.clap.specs.Words.{found_of, rows_of}
use Rattle.resp_value.specs.declared.version.Version.{Version}
use Rattle.resp_cli_args.specs.CommandWords.{HasReading}
use Rattle.resp_cli_args.proofs.AskingLemmas.{if_none, reading_has_three, reading_has_two}
use Rattle.resp_cli_args.proofs.options.reading_of.Goals as goal

pub returns-in_err-flag_of-clause-none : goal.returns-in_err-flag_of-clause-none
returns-in_err-flag_of-clause-none c =
    let given = rows_of (found_of c.args.matches.now) in
    let none : (version : Version) (doubles : Bool) → HasReading given version doubles → ⊥ =
    λ version doubles has. let two = reading_has_two given version doubles has in c.in_err-flag_of.ensures.none two.0 two.1 in
    if_none _ _ none

pub returns-in_err-flag_of-3-clause-none : goal.returns-in_err-flag_of-3-clause-none
returns-in_err-flag_of-3-clause-none c =
    let given = rows_of (found_of c.args.matches.now) in
    let none : (version : Version) (doubles : Bool) → HasReading given version doubles → ⊥ =
    λ version doubles has.
    let off = rw c.if-branch.false at c.in_ok-flag_of.ensures.some in
    let three = reading_has_three given version doubles off has in
    c.in_err-flag_of-3.ensures.none three.0 three.1 in
    if_none _ _ none
