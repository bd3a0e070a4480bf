use Rattle.std.proofs.Common.{ℕ, List, Option}
use Rattle.clap.specs.Words.{found_of, rows_of}
use Rattle.resp_value.specs.Bounds.{Bounds}
use Rattle.resp_cli_args.specs.CommandWords.{HasServeWords}
use Rattle.resp_cli_args.proofs.AskingLemmas.{if_none}
use Rattle.resp_cli_args.proofs.serving.words_of.Goals as goal

pub returns-in_err-most_of-clause-none : goal.returns-in_err-most_of-clause-none
returns-in_err-most_of-clause-none c =
    let none : (address : List ℕ) (limits : Bounds) (clients : Option ℕ) (held drain_timeout : ℕ) →
    HasServeWords (rows_of (found_of c.args.matches.now)) address limits clients held drain_timeout → ⊥ =
    λ address limits clients held drain_timeout has. c.in_err-most_of.ensures.none _ has.at_once in
    if_none _ _ none

pub returns-in_err-bytes_of-clause-none : goal.returns-in_err-bytes_of-clause-none
returns-in_err-bytes_of-clause-none c =
    let none : (address : List ℕ) (limits : Bounds) (clients : Option ℕ) (held drain_timeout : ℕ) →
    HasServeWords (rows_of (found_of c.args.matches.now)) address limits clients held drain_timeout → ⊥ =
    λ address limits clients held drain_timeout has. c.in_err-bytes_of.ensures.none _ has.waiting in
    if_none _ _ none

pub returns-in_err-pause_between-clause-none : goal.returns-in_err-pause_between-clause-none
returns-in_err-pause_between-clause-none c =
    let none : (address : List ℕ) (limits : Bounds) (clients : Option ℕ) (held drain_timeout : ℕ) →
    HasServeWords (rows_of (found_of c.args.matches.now)) address limits clients held drain_timeout → ⊥ =
    λ address limits clients held drain_timeout has. c.in_err-pause_between.ensures.none _ has.drains in
    if_none _ _ none
