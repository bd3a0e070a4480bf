use Rattle.clap.specs.Words.{found_of, rows_of}
use Rattle.resp_cli_args.specs.CommandWords.{HasProxyOptions}
use Rattle.resp_cli_args.specs.declared.proxying.ProxyOptions.{ProxyOptions}
use Rattle.resp_cli_args.proofs.AskingLemmas.{if_none}
use Rattle.resp_cli_args.proofs.proxying.options_of.Goals as goal

pub returns-in_err-times-clause-none : goal.returns-in_err-times-clause-none
returns-in_err-times-clause-none c =
    let none : (options : ProxyOptions) → HasProxyOptions (rows_of (found_of c.args.matches.now)) options → ⊥ =
    λ options has. c.in_err-times.ensures.none _ has.times in
    if_none _ _ none

pub returns-in_err-local_ping-clause-none : goal.returns-in_err-local_ping-clause-none
returns-in_err-local_ping-clause-none c =
    let none : (options : ProxyOptions) → HasProxyOptions (rows_of (found_of c.args.matches.now)) options → ⊥ =
    λ options has. c.in_err-local_ping.ensures.none _ has.flags in
    if_none _ _ none

pub returns-in_err-refuses_lines-clause-none : goal.returns-in_err-refuses_lines-clause-none
returns-in_err-refuses_lines-clause-none c =
    let none : (options : ProxyOptions) → HasProxyOptions (rows_of (found_of c.args.matches.now)) options → ⊥ =
    λ options has. c.in_err-refuses_lines.ensures.none _ has.refuses_lines in
    if_none _ _ none

pub returns-in_err-most_of-clause-none : goal.returns-in_err-most_of-clause-none
returns-in_err-most_of-clause-none c =
    let none : (options : ProxyOptions) → HasProxyOptions (rows_of (found_of c.args.matches.now)) options → ⊥ =
    λ options has. c.in_err-most_of.ensures.none _ has.at_once in
    if_none _ _ none

pub returns-in_err-number_between-clause-none : goal.returns-in_err-number_between-clause-none
returns-in_err-number_between-clause-none c =
    let none : (options : ProxyOptions) → HasProxyOptions (rows_of (found_of c.args.matches.now)) options → ⊥ =
    λ options has. c.in_err-number_between.ensures.none _ has.alone in
    if_none _ _ none

pub returns-in_err-number_between-2-clause-none : goal.returns-in_err-number_between-2-clause-none
returns-in_err-number_between-2-clause-none c =
    let none : (options : ProxyOptions) → HasProxyOptions (rows_of (found_of c.args.matches.now)) options → ⊥ =
    λ options has. c.in_err-number_between-2.ensures.none _ has.unanswered in
    if_none _ _ none

pub returns-in_err-bytes_of-clause-none : goal.returns-in_err-bytes_of-clause-none
returns-in_err-bytes_of-clause-none c =
    let none : (options : ProxyOptions) → HasProxyOptions (rows_of (found_of c.args.matches.now)) options → ⊥ =
    λ options has. c.in_err-bytes_of.ensures.none _ has.for_client in
    if_none _ _ none

pub returns-in_err-bytes_of-2-clause-none : goal.returns-in_err-bytes_of-2-clause-none
returns-in_err-bytes_of-2-clause-none c =
    let none : (options : ProxyOptions) → HasProxyOptions (rows_of (found_of c.args.matches.now)) options → ⊥ =
    λ options has. c.in_err-bytes_of-2.ensures.none _ has.unread in
    if_none _ _ none

pub returns-in_err-bytes_of-3-clause-none : goal.returns-in_err-bytes_of-3-clause-none
returns-in_err-bytes_of-3-clause-none c =
    let none : (options : ProxyOptions) → HasProxyOptions (rows_of (found_of c.args.matches.now)) options → ⊥ =
    λ options has. c.in_err-bytes_of-3.ensures.none _ has.for_server in
    if_none _ _ none

pub returns-in_err-number_between-3-clause-none : goal.returns-in_err-number_between-3-clause-none
returns-in_err-number_between-3-clause-none c =
    let none : (options : ProxyOptions) → HasProxyOptions (rows_of (found_of c.args.matches.now)) options → ⊥ =
    λ options has. c.in_err-number_between-3.ensures.none _ has.probes in
    if_none _ _ none

pub returns-in_err-number_between-4-clause-none : goal.returns-in_err-number_between-4-clause-none
returns-in_err-number_between-4-clause-none c =
    let none : (options : ProxyOptions) → HasProxyOptions (rows_of (found_of c.args.matches.now)) options → ⊥ =
    λ options has. c.in_err-number_between-4.ensures.none _ has.shared in
    if_none _ _ none
