use Rattle.clap.specs.Words.{found_of, rows_of}
use Rattle.resp_cli_args.specs.CommandWords.{HasStats}
use Rattle.resp_cli_args.specs.declared.tapping.StatsOptions.{StatsOptions}
use Rattle.resp_cli_args.proofs.AskingLemmas.{if_none}
use Rattle.resp_cli_args.proofs.tapping.stats_of.Goals as goal

pub returns-in_err-pause_between-clause-none : goal.returns-in_err-pause_between-clause-none
returns-in_err-pause_between-clause-none c =
    let none : (stats : StatsOptions) → HasStats (rows_of (found_of c.args.matches.now)) stats → ⊥ =
    λ stats has. c.in_err-pause_between.ensures.none _ has.micros in
    if_none _ _ none
