use Rattle.clap.specs.Words.{found_of, rows_of}
use Rattle.resp_cli_args.specs.CommandWords.{HasProxyTimes}
use Rattle.resp_cli_args.specs.declared.proxying.ProxyTimes.{ProxyTimes}
use Rattle.resp_cli_args.proofs.AskingLemmas.{if_none}
use Rattle.resp_cli_args.proofs.proxying.times_of.Goals as goal

pub returns-in_err-server_timeout-clause-none : goal.returns-in_err-server_timeout-clause-none
returns-in_err-server_timeout-clause-none c =
    let none : (times : ProxyTimes) → HasProxyTimes (rows_of (found_of c.args.matches.now)) times → ⊥ =
    λ times has. c.in_err-server_timeout.ensures.none _ has.server_timeout in
    if_none _ _ none

pub returns-in_err-report-clause-none : goal.returns-in_err-report-clause-none
returns-in_err-report-clause-none c =
    let none : (times : ProxyTimes) → HasProxyTimes (rows_of (found_of c.args.matches.now)) times → ⊥ =
    λ times has. c.in_err-report.ensures.none _ has.report in
    if_none _ _ none

pub returns-in_err-pause_between-clause-none : goal.returns-in_err-pause_between-clause-none
returns-in_err-pause_between-clause-none c =
    let none : (times : ProxyTimes) → HasProxyTimes (rows_of (found_of c.args.matches.now)) times → ⊥ =
    λ times has. c.in_err-pause_between.ensures.none _ has.drain_timeout in
    if_none _ _ none
